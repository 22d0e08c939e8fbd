use Rattle.std.proofs.Common.{◌≡◌, ◌++◌}
use Rattle.pgs_base_slots.proofs.slots.SlotsCopyable.copy.Given as goal

abbrev pub invariant-loop-key : goal.invariant-loop-key
invariant-loop-key g l = l.slots.entries ++ l.key-iterator ≡ l.self
