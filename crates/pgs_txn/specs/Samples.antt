-- Operations and deltas on which the definitions of listing are tried.
use Rattle.std.specs.Prelude.{ℕ, List, [], ◌∷◌, map, Option, None}
use Rattle.pgs_base.specs.declared.element.NodeId.{NodeId}
use Rattle.pgs_base.specs.declared.element.EdgeId.{EdgeId}
use Rattle.pgs_base.specs.declared.row.NodeRow.{NodeRow}
use Rattle.pgs_base.specs.declared.row.EdgeRow.{EdgeRow}
use Rattle.pgs_graph.specs.declared.delta.Delta.{Delta}
use Rattle.pgs_graph.specs.declared.operation.Op.{Op}
use Rattle.pgs_graph.specs.declared.operation.Op.TheVariants.{AddEdge, RemoveNode, DetachNode}

-- one operation: the node is detached, or removed; the edge is added between these
abbrev pub detach : ℕ → List Op
detach node = DetachNode (record { 0 = node }) ∷ []

abbrev pub remove : ℕ → List Op
remove node = RemoveNode (record { 0 = node }) ∷ []

abbrev pub join : ℕ → ℕ → ℕ → List Op
join edge source target = AddEdge (record { 0 = edge }) (record { 0 = source }) (record { 0 = target }) [] [] ∷ []

abbrev pub no_node : ℕ → NodeId × Option NodeRow
no_node number = (record { 0 = number }, None)

abbrev pub no_edge : ℕ → EdgeId × Option EdgeRow
no_edge number = (record { 0 = number }, None)

-- the delta that removes these nodes and edges
abbrev pub removing : List ℕ → List ℕ → Delta
removing nodes edges = record { nodes = map no_node nodes; edges = map no_edge edges }
