-- What the reads of a graph answer.
use Rattle.std.specs.Prelude.{ℕ, ◌+◌, ◌==◌, Bool, List, length}
use Rattle.std.specs.List.{filter}
use Rattle.std.specs.Map.{keys_of}
use Rattle.pgs_base.specs.declared.element.NodeId.{NodeId}
use Rattle.pgs_base.specs.declared.element.EdgeId.{EdgeId}
use Rattle.pgs_base.specs.declared.row.EdgeRow.{EdgeRow}
use Rattle.pgs_base.specs.declared.value.Value.{Value}
use Rattle.pgs_base.specs.Graph.{Graph}
use Rattle.pgs_graph.specs.declared.scan.End.{End}
use Rattle.pgs_graph.specs.declared.scan.End.TheVariants.{Source, Target}

-- the row of an edge between these nodes that carries these
abbrev pub edge_row : NodeId → NodeId → List (List ℕ) → List (List ℕ × Value) → EdgeRow
edge_row source target labels props = record { source = source; target = target; labels = labels; props = props }

-- an end of an edge
abbrev pub end_of : End → EdgeRow → NodeId
end_of Source row = row.source
end_of Target row = row.target

-- whether a node is this end of an edge
abbrev pub ends_at : End → NodeId → EdgeId × EdgeRow → Bool
ends_at end id edge = (end_of end edge.1).0 == id.0

-- the numbers of the edges that have a node as this end, ascending where the edges ascend
abbrev pub edges_with : End → NodeId → List (EdgeId × EdgeRow) → List EdgeId
edges_with end id edges = keys_of (filter (ends_at end id) edges)

-- the edges that go out of a node, by ascending number
abbrev pub out_edges_of : Graph → NodeId → List EdgeId
out_edges_of g id = edges_with Source id g.edges

-- the edges that come in at a node, by ascending number
abbrev pub in_edges_of : Graph → NodeId → List EdgeId
in_edges_of g id = edges_with Target id g.edges

-- the in-degree plus the out-degree of a node: how many edges go out of it and come in at it, a loop twice
abbrev pub degree_of : Graph → NodeId → ℕ
degree_of g id = length (out_edges_of g id) + length (in_edges_of g id)
