-- The edges of a graph at a node, by which of their ends it is.
use Rattle.std.specs.Prelude.{Bool, false, not, ◌&&◌, ◌==◌, List, [], ◌∷◌, Option, Some, None}
use Rattle.pgs_base.specs.declared.element.NodeId.{NodeId}
use Rattle.pgs_base.specs.declared.element.EdgeId.{EdgeId}
use Rattle.pgs_base.specs.declared.row.EdgeRow.{EdgeRow}
use Rattle.pgs_base.specs.Graph.{Graph, edge_at}
use Rattle.pgs_graph.specs.Reads.{end_of, edges_with}
use Rattle.pgs_graph.specs.declared.scan.End.{End}
use Rattle.pgs_graph.specs.declared.scan.End.TheVariants.{Source, Target}
use Rattle.pgs_txn.specs.declared.changed_rows.ChangedRows.{ChangedRows}
use Rattle.pgs_txn.specs.declared.edges_at_node.Direction.{Direction}
use Rattle.pgs_txn.specs.declared.edges_at_node.Direction.TheVariants.{Out, In}
use Rattle.pgs_txn.specs.Rows.{has_end, is_changed}

-- the end at which a node stands, of the edges of a direction
abbrev pub end_for : Direction → End
end_for Out = Source
end_for In = Target

-- the edges of a direction at a node, by ascending number
abbrev pub edges_of : Direction → Graph → NodeId → List EdgeId
edges_of direction g id = edges_with (end_for direction) id g.edges

-- whether there is an edge, and it has a direction at a node
abbrev pub has_direction : Direction → NodeId → Option EdgeRow → Bool
has_direction direction id None = false
has_direction direction id (Some row) = (end_of (end_for direction) row).0 == id.0

-- whether an edge has a direction at a node in a graph, and was not changed
abbrev pub is_unchanged_at : Direction → NodeId → Graph → ChangedRows → EdgeId → Bool
is_unchanged_at direction id g rows edge = has_direction direction id (edge_at g edge) && not (is_changed rows edge)

-- whether a node is an end of an edge in a graph
abbrev pub is_at_node : NodeId → Graph → EdgeId → Bool
is_at_node id g edge = has_end id (edge_at g edge)

-- the number of the first of some edges
abbrev pub first_number : List (EdgeId × EdgeRow) → Option EdgeId
first_number [] = None
first_number (edge ∷ edges) = Some edge.0
