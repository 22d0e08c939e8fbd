-- A graph in the middle of a transaction: a graph, and the rows that were changed since.
use Rattle.std.specs.Prelude.{◌≡◌, Bool, true}
use Rattle.std.specs.BTreeMap.{is_at}
use Rattle.std.specs.List.{list_any, list_all}
use Rattle.std.specs.Map.{keys_of}
use Rattle.pgs_base.specs.declared.element.NodeId.{NodeId}
use Rattle.pgs_base.specs.declared.element.EdgeId.{EdgeId}
use Rattle.pgs_base.specs.Graph.{Graph, node_cmp, edge_at, element_count, is_graph}
use Rattle.pgs_graph.specs.Changed.{changed}
use Rattle.pgs_txn.specs.declared.changed_rows.ChangedRows.{ChangedRows}
use Rattle.pgs_txn.specs.declared.working.Working.{Working}
use Rattle.pgs_txn.specs.Rows.{delta_of, has_end, is_changed, IsIndexed}

-- the graph as it is so far
abbrev pub graph_now : Graph → Working → Graph
graph_now g w = changed g (delta_of w.rows)

-- each edge at a node was changed
abbrev pub IsCovered : Graph → ChangedRows → NodeId → Type 0
IsCovered g rows id = (edge : EdgeId) → has_end id (edge_at g edge) ≡ true → is_changed rows edge ≡ true

-- the changes are those of a graph: of each node that is marked as cleared all edges were changed, and the count is that of the
-- elements as they are so far
pub record StandsOn (g : Graph) (w : Working) : Type 0 where
  pub base : is_graph g ≡ true
  pub indexed : IsIndexed w.rows
  pub cleared : (id : NodeId) → list_any (is_at (node_cmp id)) w.cleared.keys ≡ true → IsCovered g w.rows id
  pub count : w.count ≡ element_count (graph_now g w)

-- all elements that were changed pass tests
abbrev pub Lists : (NodeId → Bool) → (EdgeId → Bool) → ChangedRows → Type 0
Lists nodes edges rows = (list_all nodes (keys_of rows.nodes) ≡ true) × (list_all edges (keys_of rows.edges) ≡ true)
