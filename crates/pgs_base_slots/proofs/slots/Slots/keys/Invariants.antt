use Rattle.std.proofs.Common.{◌≡◌, ◌++◌}
use Rattle.std.specs.Map.{keys_of}
use Rattle.pgs_base_slots.specs.Slots.{present}
use Rattle.pgs_base_slots.proofs.slots.Slots.keys.Given as goal

abbrev pub invariant-loop-key : goal.invariant-loop-key
invariant-loop-key g l = l.keys.items ++ keys_of (present l.key-iterator) ≡ keys_of (present l.self)
