use Rattle.std.proofs.Common.{◌≡◌, true}
use Rattle.std.specs.List.{list_all}
use Rattle.std.specs.Map.{keys_of}
use Rattle.pgs_base_slots.specs.Slots.{has_slot, present}
use Rattle.pgs_graph.specs.Changed.{entries_changed}
use Rattle.pgs_graph.proofs.graph.change_rows.Given as goal

abbrev pub invariant-loop-key : goal.invariant-loop-key
invariant-loop-key g l = record {
  slots : list_all (has_slot g.K.Ord.cmp l.rows) (keys_of l.key-iterator.rest.items) ≡ true;
  made : entries_changed g.K.Ord.cmp (present l.rows) l.key-iterator.rest.items ≡ entries_changed g.K.Ord.cmp (present l.fn.rows) l.fn.changes;
}
