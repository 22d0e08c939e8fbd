-- The lists of edges at the nodes of a graph, and which of them a delta touches.
use Rattle.std.specs.Prelude.{◌≡◌, Bool, true, false, ◌||◌, List, [], map, Option, Some, None}
use Rattle.std.specs.List.{list_any, filter}
use Rattle.pgs_base.specs.declared.element.NodeId.{NodeId}
use Rattle.pgs_base.specs.declared.element.EdgeId.{EdgeId}
use Rattle.pgs_base.specs.declared.row.NodeRow.{NodeRow}
use Rattle.pgs_base.specs.declared.row.EdgeRow.{EdgeRow}
use Rattle.pgs_base.specs.Graph.{Graph, edge_at, is_end}
use Rattle.pgs_graph.specs.declared.delta.Delta.{Delta}
use Rattle.pgs_graph.specs.Changed.{changed, is_sound}
use Rattle.pgs_graph.specs.Reads.{out_edges_of, in_edges_of}
use Rattle.pgs_tables.specs.declared.node_edges.NodeEdges.{NodeEdges}
use Rattle.pgs_tables.specs.declared.prepared.Prepared.{Prepared}

-- no edges
abbrev pub no_edges : NodeEdges
no_edges = record { outgoing = []; incoming = [] }

-- the edges at a node
abbrev pub node_edges : Graph → NodeId → NodeEdges
node_edges g id = record { outgoing = out_edges_of g id; incoming = in_edges_of g id }

-- whether a node is an end of an edge, where there is one
abbrev pub is_end_of : NodeId → Option EdgeRow → Bool
is_end_of id None = false
is_end_of id (Some row) = is_end id row

-- whether a node is an old or a new end of an edge that a delta changes
abbrev pub ends_here : Graph → NodeId → EdgeId × Option EdgeRow → Bool
ends_here g id change = is_end_of id (edge_at g change.0) || is_end_of id change.1

-- whether a delta touches the edges at a node: it is an old or new end of an edge that the delta changes
abbrev pub is_touched : Graph → Delta → NodeId → Bool
is_touched g delta id = list_any (ends_here g id) delta.edges

-- the nodes whose edges a delta touches in a graph, of those that are there after it, each with its edges after it
abbrev pub touched_edges : Graph → Delta → List (NodeId × NodeEdges)
touched_edges g delta =
    map (λ (node : NodeId × NodeRow). (node.0, node_edges (changed g delta) node.0))
    (filter (λ (node : NodeId × NodeRow). is_touched g delta node.0) (changed g delta).nodes)

-- a prepared delta suits a graph: it is sound for it, and the lists are the edges, after it, of each node whose edges it touches
pub record Suits (g : Graph) (prepared : Prepared) : Type 0 where
  pub sound : is_sound g prepared.delta ≡ true
  pub lists : prepared.lists ≡ touched_edges g prepared.delta
