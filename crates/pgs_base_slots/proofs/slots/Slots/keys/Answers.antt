use Rattle.std.proofs.Common.{◌∙◌, ◌++◌, Option, sym, ap, append_assoc}
use Rattle.std.specs.Map.{keys_of}
use Rattle.pgs_base_slots.specs.Slots.{left_at, present}
use Rattle.pgs_base_slots.proofs.Present.{keys-next}
use Rattle.pgs_base_slots.proofs.slots.Slots.keys.Goals as goal

pub loop-key-preserved : goal.loop-key-preserved
loop-key-preserved g c =
    let items = c.loop-key.keys.items in
    let slot : g.row.K.Denot × Option g.row.V.Denot = (c.in-Some.key.now, c.in-Some.slot.now) in
    let rest = c.next.new.self in
    ap (λ l. l ++ keys_of (present rest)) c.in_ok-list_key.ensures ∙ append_assoc items (keys_of (left_at slot.0 slot.1)) (keys_of (present rest)) ∙ ap (λ l. items ++ l) (keys-next slot rest)
    ∙ ap (λ l. items ++ keys_of (present l)) (sym c.in-Some.ensures.steps) ∙ c.loop-key.invariant
