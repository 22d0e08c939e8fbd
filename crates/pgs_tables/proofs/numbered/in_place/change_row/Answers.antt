use Rattle.std.proofs.Common.{◌≡◌, ◌∙◌, IsSome, length, sym, ap, subst, arith}
use Rattle.std.specs.Map.{keys_of, lookup}
use Rattle.std.proofs.lemmas.Map.{keys-set_value}
use Rattle.std.specs.BTreeMap.{is_at}
use Rattle.std.specs.List.{list_any, IsDistinct}
use Rattle.std.specs.Option.{option_flatten}
use Rattle.pgs_tables.specs.Commits.{row_changed}
use Rattle.pgs_tables.specs.Slots.{present, row_count}
use Rattle.pgs_tables.proofs.InPlace.{changed_count, count-change, looked-changed, one-row}
use Rattle.pgs_tables.proofs.Rows.{slot-found, count-taken, count-present}
use Rattle.pgs_tables.proofs.numbered.in_place.change_row.Goals as goal

pub overflow_sub-nodes : goal.overflow_sub-nodes
overflow_sub-nodes g c =
    let counted = count-taken (g.K.PartialEq.eq c.args.id) c.nodes.inside.slots.entries in
    omega (arith, c.nodes.invariant.counted, c.change_slot-before.ensures.count)

pub overflow_add-nodes : goal.overflow_add-nodes
overflow_add-nodes g c =
    let most = count-present c.nodes.inside.slots.entries in
    let one = one-row c.args.row in
    omega (arith, c.nodes.invariant.counted, c.len-slots.ensures.small, c.count_row-after.ensures)

pub invariant_of-nodes : goal.invariant_of-nodes
invariant_of-nodes g c =
    let test = g.K.PartialEq.eq c.args.id in
    let slots = c.nodes.inside.slots.entries in
    let there : IsSome (lookup test slots) =
    sym (slot-found g.met.K.Ord.total g.met.K.Ord.matches_eq c.args.id slots) ∙ ap (λ s. list_any (is_at (g.K.Ord.cmp c.args.id)) s.numbers) c.nodes.view_is ∙ c.requires in
    let new = row_changed c.args.row (option_flatten (lookup test slots)) in
    let counted = count-change test slots new there in
    let before = count-taken test slots in
    let same : row_count new ≡ row_count c.args.row = changed_count c.args.row (option_flatten (lookup test slots)) in
    let left = ap (λ l. length (present l)) c.change_slot-before.ensures.entries in
    record {
      distinct = subst (IsDistinct g.K.PartialEq.eq) (sym (keys-set_value test slots new) ∙ ap keys_of (sym c.change_slot-before.ensures.entries)) c.nodes.invariant.distinct;
      counted = omega (arith, c.nodes.invariant.counted, c.change_slot-before.ensures.count, c.count_row-after.ensures);
      below = λ id above. ap (λ l. list_any (is_at (g.K.Ord.cmp id)) (keys_of l)) c.change_slot-before.ensures.entries
          ∙ ap (list_any (is_at (g.K.Ord.cmp id))) (keys-set_value test slots new) ∙ c.nodes.invariant.below id above;
    }

pub returns-clause-rows : goal.returns-clause-rows
returns-clause-rows g c q =
    let slots = c.nodes.inside.slots.entries in
    let there : IsSome (lookup (g.K.PartialEq.eq c.args.id) slots) =
    sym (slot-found g.met.K.Ord.total g.met.K.Ord.matches_eq c.args.id slots) ∙ ap (λ s. list_any (is_at (g.K.Ord.cmp c.args.id)) s.numbers) c.nodes.view_is ∙ c.requires in
    rw (c.change_slot-before.ensures.entries, ← c.nodes.view_is)
    (looked-changed g.met.K.Ord.total g.met.K.Ord.matches_eq g.met.K.Number.exact (row_changed c.args.row) c.args.id q slots c.nodes.invariant.distinct there)

pub returns-clause-numbers : goal.returns-clause-numbers
returns-clause-numbers g c =
    let slots = c.nodes.inside.slots.entries in
    let new = row_changed c.args.row (option_flatten (lookup (g.K.PartialEq.eq c.args.id) slots)) in
    rw (c.change_slot-before.ensures.entries, ← c.nodes.view_is) (keys-set_value (g.K.PartialEq.eq c.args.id) slots new)
