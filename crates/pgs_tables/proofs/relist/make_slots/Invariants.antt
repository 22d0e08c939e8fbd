use Rattle.std.proofs.Common.{◌≡◌, ◌+◌, ◌≤◌, true, length, take}
use Rattle.std.specs.List.{list_all}
use Rattle.std.specs.Map.{keys_of}
use Rattle.pgs_tables.specs.Slots.{has_slot}
use Rattle.pgs_tables.proofs.relist.make_slots.Given as goal

abbrev pub invariant-loop-change : goal.invariant-loop-change
invariant-loop-change g l = record {
  rows : l.table.rows ≡ l.initial.table.rows;
  seed : l.table.seed ≡ l.initial.table.seed;
  there : list_all (has_slot g.K.Ord.cmp l.table) (keys_of (take l.change-index l.changes)) ≡ true;
  few : length l.table.numbers ≤ length l.initial.table.numbers + l.change-index;
}
