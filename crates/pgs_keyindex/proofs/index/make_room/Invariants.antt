use Rattle.std.proofs.Common.{◌≡◌, true, take}
use Rattle.std.specs.List.{list_all}
use Rattle.pgs_keyindex.specs.Table.{Grows, has_room}
use Rattle.pgs_keyindex.proofs.index.make_room.Given as goal

abbrev pub invariant-loop-change : goal.invariant-loop-change
invariant-loop-change l = record {
  grows : Grows l.fn.table l.table;
  room : list_all (has_room l.table) (take l.change-index l.changes) ≡ true;
}
