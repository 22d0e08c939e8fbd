use Rattle.std.proofs.Common.{◌≡◌}
use Rattle.std.specs.Map.{lookup}
use Rattle.std.specs.BTreeMap.{is_at}
use Rattle.pgs_base.specs.declared.element.NodeId.{NodeId}
use Rattle.pgs_base.specs.Graph.{node_cmp}
use Rattle.pgs_tables.specs.Commits.{lists_put}
use Rattle.pgs_tables.proofs.commit.put_lists.Given as goal

abbrev pub invariant-loop-id : goal.invariant-loop-id
invariant-loop-id l = record {
  made : (q : NodeId) → lists_put q (lookup (is_at (node_cmp q)) l.nodes.rows) l.id-iterator.rest.items ≡ lists_put q (lookup (is_at (node_cmp q)) l.fn.nodes.rows) l.fn.lists.items;
  numbers : l.nodes.numbers ≡ l.fn.nodes.numbers;
  seed : l.nodes.seed ≡ l.fn.nodes.seed;
}
