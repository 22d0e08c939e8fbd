use Rattle.std.proofs.Common.{if◌then◌else◌, Some, sym, ◌∙◌, ap}
use Rattle.std.specs.BTreeMap.{get}
use Rattle.std.specs.Cmp.Lexicographic.{slice_cmp}
use Rattle.std.specs.Option.{is_some}
use Rattle.std.specs.Ordering.{nat_cmp}
use Rattle.pgs_base.specs.Pair.{same_name}
use Rattle.pgs_resolve_declared.proofs.Same.{had_number, gets_number}
use Rattle.pgs_resolve_declared.proofs.names.place_first.Goals as goal

pub returns-then-contains_key-clause-ok : goal.returns-then-contains_key-clause-ok
returns-then-contains_key-clause-ok c = λ q.
    had_number (is_some (get (slice_cmp nat_cmp) c.args.places.now c.args.name.now)) (same_name c.args.name.now q) (get (slice_cmp nat_cmp) c.args.places.now q) c.args.number
    (sym c.contains_key.ensures ∙ c.if-contains_key.true)

pub returns-clause-ok : goal.returns-clause-ok
returns-clause-ok c = λ q.
    c.in_ok-insert.ensures.updates.0 q
    ∙ ap (λ key. if same_name key q then Some c.args.number else get (slice_cmp nat_cmp) c.args.places.now q) c.in_ok-key.ensures
    ∙ gets_number (is_some (get (slice_cmp nat_cmp) c.args.places.now c.args.name.now)) (same_name c.args.name.now q) (get (slice_cmp nat_cmp) c.args.places.now q) c.args.number
    (sym c.contains_key.ensures ∙ c.if-contains_key.false)
