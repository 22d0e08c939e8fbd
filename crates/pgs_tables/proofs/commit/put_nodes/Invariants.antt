use Rattle.std.proofs.Common.{◌≡◌, true}
use Rattle.std.specs.List.{list_all}
use Rattle.std.specs.Map.{keys_of, lookup}
use Rattle.std.specs.BTreeMap.{is_at}
use Rattle.pgs_base.specs.declared.element.NodeId.{NodeId}
use Rattle.pgs_base.specs.Graph.{node_cmp}
use Rattle.pgs_tables.specs.Slots.{has_slot}
use Rattle.pgs_tables.specs.Commits.{rows_put}
use Rattle.pgs_tables.proofs.commit.put_nodes.Given as goal

abbrev pub invariant-loop-id : goal.invariant-loop-id
invariant-loop-id l = record {
  slots : list_all (has_slot node_cmp l.nodes) (keys_of l.id-iterator.rest.items) ≡ true;
  made : (q : NodeId) → rows_put q (lookup (is_at (node_cmp q)) l.nodes.rows) l.id-iterator.rest.items ≡ rows_put q (lookup (is_at (node_cmp q)) l.fn.nodes.rows) l.fn.changes.items;
  numbers : l.nodes.numbers ≡ l.fn.nodes.numbers;
  seed : l.nodes.seed ≡ l.fn.nodes.seed;
}
