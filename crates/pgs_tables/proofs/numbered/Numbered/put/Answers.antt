use Rattle.std.proofs.Common.{◌≡◌, ◌∙◌, Some, IsSome, length, sym, ap, subst, arith}
use Rattle.std.specs.Map.{keys_of, lookup}
use Rattle.std.proofs.lemmas.Map.{keys-set_value}
use Rattle.std.specs.BTreeMap.{is_at}
use Rattle.std.specs.List.{list_any, IsDistinct}
use Rattle.std.specs.Option.{option_flatten}
use Rattle.pgs_tables.specs.Slots.{present, row_count}
use Rattle.pgs_tables.proofs.Rows.{slot-found, rows-put, count-taken, count-put, count-present}
use Rattle.pgs_tables.proofs.numbered.Numbered.put.Goals as goal

pub overflow_sub-self : goal.overflow_sub-self
overflow_sub-self g c =
    let test = g.K.PartialEq.eq c.args.id in
    let counted = count-taken test c.self.inside.slots.entries in
    let one : c.count_row.result ≡ row_count (option_flatten (lookup test c.self.inside.slots.entries)) = c.count_row.ensures ∙ ap row_count c.replace-old.ensures.old in
    omega (arith, c.self.invariant.counted)

pub overflow_add-self : goal.overflow_add-self
overflow_add-self g c =
    let most = count-present c.self.inside.slots.entries in
    omega (arith, c.self.invariant.counted, c.len-slots.ensures.small)

pub invariant_of-self : goal.invariant_of-self
invariant_of-self g c =
    let test = g.K.PartialEq.eq c.args.id in
    let slots = c.self.inside.slots.entries in
    let there : IsSome (lookup test slots) =
    sym (slot-found g.met.K.Ord.total g.met.K.Ord.matches_eq c.args.id slots) ∙ ap (λ s. list_any (is_at (g.K.Ord.cmp c.args.id)) s.numbers) c.self.view_is ∙ c.requires in
    let counted = count-put test slots c.args.row there in
    let before = count-taken test slots in
    let one : c.count_row.result ≡ row_count (option_flatten (lookup test slots)) = c.count_row.ensures ∙ ap row_count c.replace-old.ensures.old in
    let left = ap (λ l. length (present l)) c.replace-old.ensures.entries in
    record {
      distinct = subst (IsDistinct g.K.PartialEq.eq) (sym (keys-set_value test slots (Some c.args.row)) ∙ ap keys_of (sym c.replace-old.ensures.entries)) c.self.invariant.distinct;
      counted = omega (arith, c.self.invariant.counted);
      below = λ id above. ap (λ l. list_any (is_at (g.K.Ord.cmp id)) (keys_of l)) c.replace-old.ensures.entries
          ∙ ap (list_any (is_at (g.K.Ord.cmp id))) (keys-set_value test slots (Some c.args.row)) ∙ c.self.invariant.below id above;
    }

pub returns-clause-rows : goal.returns-clause-rows
returns-clause-rows g c =
    let slots = c.self.inside.slots.entries in
    let there : IsSome (lookup (g.K.PartialEq.eq c.args.id) slots) =
    sym (slot-found g.met.K.Ord.total g.met.K.Ord.matches_eq c.args.id slots) ∙ ap (λ s. list_any (is_at (g.K.Ord.cmp c.args.id)) s.numbers) c.self.view_is ∙ c.requires in
    rw (c.replace-old.ensures.entries, ← c.self.view_is) (rows-put g.met.K.Ord.total g.met.K.Ord.matches_eq g.met.K.Number.exact c.args.id c.args.row slots c.self.invariant.distinct there)

pub returns-clause-numbers : goal.returns-clause-numbers
returns-clause-numbers g c =
    rw (c.replace-old.ensures.entries, ← c.self.view_is) (keys-set_value (g.K.PartialEq.eq c.args.id) c.self.inside.slots.entries (Some c.args.row))
