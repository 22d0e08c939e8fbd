use Rattle.std.proofs.Common.{◌∙◌, Option, is_some, length, sym, ap, arith, rules}
use Rattle.std.specs.List.{filter, list_any}
use Rattle.std.specs.BTreeMap.{is_at}
use Rattle.std.specs.Map.{keys_of}
use Rattle.std.proofs.lemmas.Map.Made.{filter_same_pairs}
use Rattle.pgs_tables.specs.Slots.{by_key, has_row, present}
use Rattle.pgs_tables.proofs.Rows.{count-filter, length-keys, numbers-filter, present-filter, rows-counted}
use Rattle.pgs_tables.proofs.Above.{none_kept}
use Rattle.pgs_tables.proofs.numbered.Numbered.clear_slots.Goals as goal

pub invariant_of-self : goal.invariant_of-self
invariant_of-self g c =
    let slots = c.self.inside.slots.entries in
    let kept = filter_same_pairs _ (λ (e : g.row.K.Denot × Option g.row.V.Denot). is_some e.1) _ (λ k v b w f' t. search rules) slots c.retain.new.self.entries c.retain.ensures.filtered in
    record {
      distinct = c.retain.ensures.unique;
      counted = c.self.invariant.counted ∙ sym (ap (λ l. length (present l)) kept ∙ ap length (present-filter slots));
      below = λ id above. ap (λ l. list_any (is_at (g.K.Ord.cmp id)) (keys_of l)) kept ∙ none_kept (is_at (g.K.Ord.cmp id)) (λ (e : g.row.K.Denot × Option g.row.V.Denot). is_some e.1) slots (c.self.invariant.below id above);
    }

pub returns-then-is_sparse-clause-rows : goal.returns-then-is_sparse-clause-rows
returns-then-is_sparse-clause-rows g c =
    let slots = c.self.inside.slots.entries in
    let kept = filter_same_pairs _ (λ (e : g.row.K.Denot × Option g.row.V.Denot). is_some e.1) _ (λ k v b w f' t. search rules) slots c.retain.new.self.entries c.retain.ensures.filtered in
    ap (λ l. by_key g.K.Ord.cmp (present l)) kept ∙ ap (by_key g.K.Ord.cmp) (present-filter slots) ∙ ap (λ s. s.rows) c.self.view_is

pub returns-then-is_sparse-clause-cleared : goal.returns-then-is_sparse-clause-cleared
returns-then-is_sparse-clause-cleared g c sparse =
    let slots = c.self.inside.slots.entries in
    let kept = filter_same_pairs _ (λ (e : g.row.K.Denot × Option g.row.V.Denot). is_some e.1) _ (λ k v b w f' t. search rules) slots c.retain.new.self.entries c.retain.ensures.filtered in
    ap keys_of kept ∙ numbers-filter g.met.K.Ord.total g.met.K.Ord.matches_eq slots c.self.invariant.distinct
    ∙ ap (λ s. filter (has_row g.K.Ord.cmp s) s.numbers) c.self.view_is

pub returns-then-is_sparse-clause-left : goal.returns-then-is_sparse-clause-left
returns-then-is_sparse-clause-left g c dense = absurd (omega (arith, c.is_sparse.ensures.sparse c.if-is_sparse.true))

pub returns-then-is_sparse-clause-few : goal.returns-then-is_sparse-clause-few
returns-then-is_sparse-clause-few g c =
    let slots = c.self.inside.slots.entries in
    let kept = filter_same_pairs _ (λ (e : g.row.K.Denot × Option g.row.V.Denot). is_some e.1) _ (λ k v b w f' t. search rules) slots c.retain.new.self.entries c.retain.ensures.filtered in
    let left = ap length kept in
    let some = count-filter slots in
    let numbers = length-keys c.retain.new.self.entries in
    let rows = rows-counted g.met.K.Ord.total g.met.K.Ord.matches_eq slots c.self.invariant.distinct in
    let seen = ap (λ s. length s.rows) c.self.view_is in
    omega arith

pub returns-else-is_sparse-clause-cleared : goal.returns-else-is_sparse-clause-cleared
returns-else-is_sparse-clause-cleared g c sparse = absurd (omega (arith, c.is_sparse.ensures.dense c.if-is_sparse.false))

pub returns-else-is_sparse-clause-few : goal.returns-else-is_sparse-clause-few
returns-else-is_sparse-clause-few g c = omega (arith, c.is_sparse.ensures.dense c.if-is_sparse.false)
