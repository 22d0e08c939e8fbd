use Rattle.std.proofs.Common.{◌∙◌, Option, is_some, length, sym, ap, arith, rules}
use Rattle.std.specs.List.{filter}
use Rattle.std.proofs.lemmas.Map.Made.{filter_same_pairs}
use Rattle.pgs_base_slots.specs.Slots.{present}
use Rattle.pgs_base_slots.proofs.Present.{count-filter, count-present, present-filter}
use Rattle.pgs_base_slots.proofs.slots.Slots.clear_slots.Goals as goal

pub overflow_sub-empty : goal.overflow_sub-empty
overflow_sub-empty g c =
    let most = count-present c.self.inside.slots.entries in
    omega (arith, c.self.invariant, c.len.ensures.len)

pub invariant_of-self : goal.invariant_of-self
invariant_of-self g c =
    let slots = c.self.inside.slots.entries in
    let kept = filter_same_pairs _ (λ (e : g.row.K.Denot × Option g.row.V.Denot). is_some e.1) _ (λ k v b w f' t. search rules) slots c.retain.new.self.entries c.retain.ensures.filtered in
    c.self.invariant ∙ sym (ap (λ l. length (present l)) kept ∙ ap length (present-filter slots))

pub returns-then-self-empty-clause-rows : goal.returns-then-self-empty-clause-rows
returns-then-self-empty-clause-rows g c =
    let slots = c.self.inside.slots.entries in
    let kept = filter_same_pairs _ (λ (e : g.row.K.Denot × Option g.row.V.Denot). is_some e.1) _ (λ k v b w f' t. search rules) slots c.retain.new.self.entries c.retain.ensures.filtered in
    ap present kept ∙ present-filter slots ∙ ap present c.self.view_is

pub returns-then-self-empty-clause-cleared : goal.returns-then-self-empty-clause-cleared
returns-then-self-empty-clause-cleared g c sparse =
    let slots = c.self.inside.slots.entries in
    let kept = filter_same_pairs _ (λ (e : g.row.K.Denot × Option g.row.V.Denot). is_some e.1) _ (λ k v b w f' t. search rules) slots c.retain.new.self.entries c.retain.ensures.filtered in
    kept ∙ ap (filter (λ (e : g.row.K.Denot × Option g.row.V.Denot). is_some e.1)) c.self.view_is

pub returns-then-self-empty-clause-few : goal.returns-then-self-empty-clause-few
returns-then-self-empty-clause-few g c =
    let slots = c.self.inside.slots.entries in
    let kept = filter_same_pairs _ (λ (e : g.row.K.Denot × Option g.row.V.Denot). is_some e.1) _ (λ k v b w f' t. search rules) slots c.retain.new.self.entries c.retain.ensures.filtered in
    let left = ap length kept in
    let rows = count-filter slots in
    let seen = ap (λ l. length (present l)) c.self.view_is in
    omega arith
