use Rattle.std.proofs.Common.{◌∙◌, length, sym, ap, subst, refl}
use Rattle.std.specs.Map.{keys_of, lookup}
use Rattle.std.proofs.lemmas.Map.{keys-set_value}
use Rattle.std.specs.BTreeMap.{is_at}
use Rattle.std.specs.List.{list_any, IsDistinct}
use Rattle.std.specs.Option.{option_flatten}
use Rattle.pgs_tables.specs.Commits.{relinked}
use Rattle.pgs_tables.specs.Slots.{present}
use Rattle.pgs_tables.proofs.InPlace.{count-relinked, looked-edited}
use Rattle.pgs_tables.proofs.numbered.in_place.relink.Goals as goal

pub invariant_of-nodes : goal.invariant_of-nodes
invariant_of-nodes g c =
    let test = g.K.PartialEq.eq c.args.id in
    let slots = c.nodes.inside.slots.entries in
    let new = relinked c.args.edges (option_flatten (lookup test slots)) in
    record {
      distinct = subst (IsDistinct g.K.PartialEq.eq) (sym (keys-set_value test slots new) ∙ ap keys_of (sym c.relink_slot.ensures.entries)) c.nodes.invariant.distinct;
      counted = c.nodes.invariant.counted ∙ sym (count-relinked test c.args.edges slots) ∙ ap (λ l. length (present l)) (sym c.relink_slot.ensures.entries);
      below = λ id above. ap (λ l. list_any (is_at (g.K.Ord.cmp id)) (keys_of l)) c.relink_slot.ensures.entries
          ∙ ap (list_any (is_at (g.K.Ord.cmp id))) (keys-set_value test slots new) ∙ c.nodes.invariant.below id above;
    }

pub returns-clause-rows : goal.returns-clause-rows
returns-clause-rows g c q =
    let slots = c.nodes.inside.slots.entries in
    rw (c.relink_slot.ensures.entries, ← c.nodes.view_is)
    (looked-edited g.met.K.Ord.total g.met.K.Ord.matches_eq g.met.K.Number.exact (relinked c.args.edges) c.args.id q slots c.nodes.invariant.distinct refl)

pub returns-clause-numbers : goal.returns-clause-numbers
returns-clause-numbers g c =
    let slots = c.nodes.inside.slots.entries in
    let new = relinked c.args.edges (option_flatten (lookup (g.K.PartialEq.eq c.args.id) slots)) in
    rw (c.relink_slot.ensures.entries, ← c.nodes.view_is) (keys-set_value (g.K.PartialEq.eq c.args.id) slots new)
