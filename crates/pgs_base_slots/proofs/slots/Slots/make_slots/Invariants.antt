use Rattle.std.proofs.Common.{◌≡◌, ◌+◌, ◌*◌, ◌≤◌, true, take, length}
use Rattle.std.specs.List.{list_all}
use Rattle.std.specs.Map.{keys_of}
use Rattle.pgs_base_slots.specs.Slots.{has_slot, present}
use Rattle.pgs_base_slots.proofs.slots.Slots.make_slots.Given as goal

abbrev pub invariant-loop-entry : goal.invariant-loop-entry
invariant-loop-entry g l = record {
  rows : present l.self ≡ present l.fn.self;
  there : list_all (has_slot g.K.Ord.cmp l.self) (keys_of (take l.entry-index l.keys)) ≡ true;
  few : length l.self ≤ 2 * length (present l.fn.self) + l.entry-index;
}
