use Rattle.std.proofs.Common.{◌≡◌, true}
use Rattle.std.specs.List.{list_all}
use Rattle.pgs_keyindex.specs.Rows.{rows_changed}
use Rattle.pgs_keyindex.specs.Table.{has_room}
use Rattle.pgs_keyindex.proofs.index.put_changes.Given as goal

abbrev pub invariant-loop-change : goal.invariant-loop-change
invariant-loop-change l = record {
  room : list_all (has_room l.table) l.change-iterator.rest.items ≡ true;
  exclusive : l.table.exclusive ≡ l.fn.table.exclusive;
  seed : l.table.seed ≡ l.fn.table.seed;
  made : rows_changed l.table.rows.rows l.change-iterator.rest.items ≡ rows_changed l.fn.table.rows.rows l.fn.changes.items;
}
