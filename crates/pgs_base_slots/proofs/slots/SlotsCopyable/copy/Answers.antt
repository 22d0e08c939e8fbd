use Rattle.std.proofs.Common.{◌∙◌, ◌++◌, sym, ap, subst}
use Rattle.std.specs.List.Sorted.{IsStrictlySortedBy}
use Rattle.std.specs.Map.{keys_of}
use Rattle.pgs_base_slots.proofs.Present.{copied-next}
use Rattle.pgs_base_slots.proofs.slots.SlotsCopyable.copy.Goals as goal

pub loop-key-preserved : goal.loop-key-preserved
loop-key-preserved g c =
    let sorted = subst (λ es. IsStrictlySortedBy g.K.Ord.cmp (keys_of es)) c.self.view_is c.iter-key-items.ensures.ordered in
    let first = c.in-Some.ensures.steps in
    rw c.in_ok-copy_slot.ensures
    (copied-next g.met.K.Ord.total c.loop-key.slots.entries (c.in-Some.key.now, c.in-Some.row.now) c.next.new.self c.args.self.now sorted
    (ap (λ l. c.loop-key.slots.entries ++ l) (sym first) ∙ c.loop-key.invariant))
