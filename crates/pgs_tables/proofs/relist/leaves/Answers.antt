use Rattle.std.proofs.Common.{◌≡◌, ◌∙◌, Option, Some, None, MatchResult, get_or, is_some, refl, sym, ap, subst, rules}
use Rattle.pgs_base.specs.declared.row.NodeRow.{NodeRow}
use Rattle.std.proofs.lemmas.Fn.{always_returns_same}
use Rattle.pgs_base.specs.Graph.{node_cmp}
use Rattle.pgs_base.specs.Places.{IsEntryAt, IsEntryGap}
use Rattle.pgs_base.proofs.Places.{entry_searched}
use Rattle.pgs_graph.proofs.Deltas.{node_cmp_total}
use Rattle.pgs_tables.specs.Relists.{leaves_row}
use Rattle.pgs_tables.proofs.relist.leaves.Goals as goal

leaves_some : (new : Option NodeRow) → is_some new ≡ leaves_row (Some new)
leaves_some None = refl
leaves_some (Some row) = refl

pub returns-in-Ok : goal.returns-in-Ok
returns-in-Ok c =
    let es = c.args.changes.now in
    let position = c.binary_search_by-place.ensures.position (λ e. node_cmp e.0 c.args.id) (always_returns_same _ _ _ (λ a r f' k. search rules)) in
    let found = subst (λ r. MatchResult r (IsEntryAt node_cmp c.args.id es) (IsEntryGap node_cmp c.args.id es)) c.in-Ok.is
    (entry_searched node_cmp_total c.args.id es c.requires c.binary_search_by-place.result c.binary_search_by-place.ensures.bound position) in
    c.is_some.ensures ∙ leaves_some (get_or es c.in-Ok.place c.index-changes-place.result).1 ∙ ap leaves_row (sym (found.value c.index-changes-place.result))

pub returns-in-Err : goal.returns-in-Err
returns-in-Err c =
    let es = c.args.changes.now in
    let position = c.binary_search_by-place.ensures.position (λ e. node_cmp e.0 c.args.id) (always_returns_same _ _ _ (λ a r f' k. search rules)) in
    let gap = subst (λ r. MatchResult r (IsEntryAt node_cmp c.args.id es) (IsEntryGap node_cmp c.args.id es)) c.in-Err.is
    (entry_searched node_cmp_total c.args.id es c.requires c.binary_search_by-place.result c.binary_search_by-place.ensures.bound position) in
    ap leaves_row (sym gap.absent)
