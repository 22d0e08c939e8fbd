use Rattle.std.proofs.Common.{◌≡◌, ◌∙◌, Option, Some, None, OnSome, true, is_some, length, sym, ap, subst, arith, refl}
use Rattle.std.specs.Map.{keys_of, lookup}
use Rattle.std.proofs.lemmas.Map.{keys-set_value}
use Rattle.std.specs.BTreeMap.{is_at}
use Rattle.std.specs.List.{list_any, IsDistinct}
use Rattle.std.specs.Option.{option_flatten}
use Rattle.std.specs.List.Sorted.{IsStrictlySortedBy}
use Rattle.pgs_tables.specs.Slots.{present, row_count}
use Rattle.pgs_tables.proofs.Rows.{slot-found, row-found, rows-taken, count-taken, ascending-rows}
use Rattle.pgs_tables.proofs.numbered.Numbered.take.Goals as goal

pub overflow_sub-self : goal.overflow_sub-self
overflow_sub-self g c =
    let counted = count-taken (g.K.PartialEq.eq c.args.id) c.self.inside.slots.entries in
    let one : c.count_row.result ≡ row_count (option_flatten (lookup (g.K.PartialEq.eq c.args.id) c.self.inside.slots.entries)) = c.count_row.ensures ∙ ap row_count c.replace-old.ensures.old in
    omega (arith, c.self.invariant.counted)

pub invariant_of-self : goal.invariant_of-self
invariant_of-self g c =
    let test = g.K.PartialEq.eq c.args.id in
    let slots = c.self.inside.slots.entries in
    let counted = count-taken test slots in
    let one : c.count_row.result ≡ row_count (option_flatten (lookup test slots)) = c.count_row.ensures ∙ ap row_count c.replace-old.ensures.old in
    let left = ap (λ l. length (present l)) c.replace-old.ensures.entries in
    record {
      distinct = subst (IsDistinct g.K.PartialEq.eq) (sym (keys-set_value test slots None) ∙ ap keys_of (sym c.replace-old.ensures.entries)) c.self.invariant.distinct;
      counted = omega (arith, c.self.invariant.counted);
      below = λ id above. ap (λ l. list_any (is_at (g.K.Ord.cmp id)) (keys_of l)) c.replace-old.ensures.entries
          ∙ ap (list_any (is_at (g.K.Ord.cmp id))) (keys-set_value test slots None) ∙ c.self.invariant.below id above;
    }

pub returns-clause-row : goal.returns-clause-row
returns-clause-row g c =
    c.replace-old.ensures.old ∙ sym (row-found g.met.K.Ord.total g.met.K.Ord.matches_eq c.args.id c.self.inside.slots.entries c.self.invariant.distinct)
    ∙ ap (λ s. lookup (is_at (g.K.Ord.cmp c.args.id)) s.rows) c.self.view_is

pub returns-clause-rows : goal.returns-clause-rows
returns-clause-rows g c =
    rw (c.replace-old.ensures.entries, ← c.self.view_is) (rows-taken g.met.K.Ord.total g.met.K.Ord.matches_eq g.met.K.Number.exact c.args.id c.self.inside.slots.entries c.self.invariant.distinct)

pub returns-clause-numbers : goal.returns-clause-numbers
returns-clause-numbers g c =
    rw (c.replace-old.ensures.entries, ← c.self.view_is) (keys-set_value (g.K.PartialEq.eq c.args.id) c.self.inside.slots.entries None)

slot_there : {V : Type 0} (o : Option (Option V)) → OnSome (option_flatten o) (is_some o ≡ true)
slot_there None = tt
slot_there (Some None) = tt
slot_there (Some (Some v)) = refl

pub returns-clause-there : goal.returns-clause-there
returns-clause-there g c =
    let test = g.K.PartialEq.eq c.args.id in
    let slots = c.self.inside.slots.entries in
    let has : list_any (is_at (g.K.Ord.cmp c.args.id)) (keys_of c.replace-old.new.slots.entries) ≡ is_some (lookup test slots) =
    ap (λ l. list_any (is_at (g.K.Ord.cmp c.args.id)) (keys_of l)) c.replace-old.ensures.entries
    ∙ ap (list_any (is_at (g.K.Ord.cmp c.args.id))) (keys-set_value test slots None)
    ∙ slot-found g.met.K.Ord.total g.met.K.Ord.matches_eq c.args.id slots in
    rw (c.replace-old.ensures.old, has) (slot_there (lookup test slots))

pub returns-clause-ascending : goal.returns-clause-ascending
returns-clause-ascending g c =
    subst (λ s. IsStrictlySortedBy g.K.Ord.cmp (keys_of s.rows)) c.self.view_is (ascending-rows g.met.K.Ord.total g.met.K.Ord.matches_eq c.self.inside.slots.entries)
