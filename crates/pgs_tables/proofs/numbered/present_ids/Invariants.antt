use Rattle.std.proofs.Common.{◌≡◌, ◌++◌}
use Rattle.std.specs.Map.{keys_of}
use Rattle.pgs_tables.specs.Slots.{present}
use Rattle.pgs_tables.proofs.numbered.present_ids.Given as goal

abbrev pub invariant-loop-id : goal.invariant-loop-id
invariant-loop-id g l = l.ids.items ++ keys_of (present l.id-iterator) ≡ keys_of (present l.slots.entries)
