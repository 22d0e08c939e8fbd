use Rattle.std.proofs.Common.{◌∙◌, None, sym, ap, length, arith}
use Rattle.std.specs.BTreeMap.{is_at}
use Rattle.std.proofs.lemmas.Map.Made.{is_some-lookup}
use Rattle.pgs_base_slots.specs.Slots.{has_slot, present}
use Rattle.pgs_base_slots.proofs.Present.{count-made, present-made, there-made, kept-made}
use Rattle.pgs_base_slots.proofs.slots.Slots.make_slot.Goals as goal

pub returns-then-contains_key-clause-there : goal.returns-then-contains_key-clause-there
returns-then-contains_key-clause-there g c =
    ap (λ s. has_slot g.K.Ord.cmp s c.args.key) (sym c.self.view_is)
    ∙ sym (is_some-lookup (is_at (g.K.Ord.cmp c.args.key)) c.self.inside.slots.entries) ∙ sym c.contains_key.ensures ∙ c.if-contains_key.true

pub invariant_of-self-2 : goal.invariant_of-self-2
invariant_of-self-2 g c =
    let made = present-made g.met.K.Ord.total c.args.key c.self.inside.slots.entries c.insert.ensures.ascending (sym c.contains_key.ensures ∙ c.if-contains_key.false) in
    c.self.invariant ∙ ap length (sym made) ∙ ap (λ l. length (present l)) (sym c.in_ok-_none.ensures.entries)

pub returns-clause-rows : goal.returns-clause-rows
returns-clause-rows g c =
    let made = present-made g.met.K.Ord.total c.args.key c.self.inside.slots.entries c.insert.ensures.ascending (sym c.contains_key.ensures ∙ c.if-contains_key.false) in
    ap present c.in_ok-_none.ensures.entries ∙ made ∙ ap present c.self.view_is

pub returns-clause-there : goal.returns-clause-there
returns-clause-there g c = rw c.in_ok-_none.ensures.entries (there-made g.met.K.Ord.total c.args.key _ c.self.inside.slots.entries)

pub returns-clause-kept : goal.returns-clause-kept
returns-clause-kept g c other there =
    rw c.in_ok-_none.ensures.entries
    (kept-made g.met.K.Ord.total c.args.key _ c.self.inside.slots.entries other (ap (λ s. has_slot g.K.Ord.cmp s other) c.self.view_is ∙ there))

pub returns-clause-few : goal.returns-clause-few
returns-clause-few g c =
    let most = count-made g.K.Ord.cmp c.args.key None c.self.inside.slots.entries in
    let made = ap length c.in_ok-_none.ensures.entries in
    let seen = ap length c.self.view_is in
    omega arith
