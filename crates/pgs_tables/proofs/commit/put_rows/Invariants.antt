use Rattle.std.proofs.Common.{◌≡◌, true}
use Rattle.std.specs.List.{list_all}
use Rattle.std.specs.Map.{keys_of}
use Rattle.pgs_graph.specs.Changed.{entries_changed}
use Rattle.pgs_tables.specs.Slots.{has_slot}
use Rattle.pgs_tables.proofs.commit.put_rows.Given as goal

abbrev pub invariant-loop-id : goal.invariant-loop-id
invariant-loop-id g l = record {
  slots : list_all (has_slot g.K.Ord.cmp l.table) (keys_of l.id-iterator.rest.items) ≡ true;
  made : entries_changed g.K.Ord.cmp l.table.rows l.id-iterator.rest.items ≡ entries_changed g.K.Ord.cmp l.fn.table.rows l.fn.changes.items;
  numbers : l.table.numbers ≡ l.fn.table.numbers;
  seed : l.table.seed ≡ l.fn.table.seed;
}
