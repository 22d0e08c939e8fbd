-- Which nodes are near an element: within so many edges of it.
use Rattle.std.specs.Prelude.{ℕ, zero, suc, ◌≡◌, ◌≤◌, Bool, true, false, ◌&&◌, ◌||◌, ◌==◌}
use Rattle.std.specs.Option.{option_map_or}
use Rattle.std.specs.List.{list_any}
use Rattle.pgs_base.specs.declared.element.NodeId.{NodeId}
use Rattle.pgs_base.specs.declared.element.EdgeId.{EdgeId}
use Rattle.pgs_base.specs.declared.element.Elem.{Elem}
use Rattle.pgs_base.specs.declared.element.Elem.TheVariants.{Node, Edge}
use Rattle.pgs_base.specs.declared.row.EdgeRow.{EdgeRow}
use Rattle.pgs_base.specs.Graph.{Graph, edge_at, is_end}
use Rattle.pgs_graph.specs.Reads.{degree_of}

-- whether a node is the element, or an end of it
abbrev pub is_at_element : Graph → Elem → NodeId → Bool
is_at_element g (Node other) id = other.0 == id.0
is_at_element g (Edge edge) id = option_map_or (is_end id) (edge_at g edge) false

-- Whether a node is within so many edges of an element: within 0 are the node itself, or the ends of the edge; within one more are
-- these and each end of an edge that has an end within.
abbrev pub is_within : Graph → ℕ → Elem → NodeId → Bool
is_within g zero elem id = is_at_element g elem id
is_within g (suc edges) elem id =
    is_within g edges elem id
    || list_any (λ (edge : EdgeId × EdgeRow).
    is_end id edge.1 && (is_within g edges elem edge.1.source || is_within g edges elem edge.1.target)) g.edges

-- no node within so many edges of an element has a greater in-degree plus out-degree
abbrev pub IsSparse : Graph → ℕ → Elem → ℕ → Type 0
IsSparse g edges elem most = (id : NodeId) → is_within g edges elem id ≡ true → degree_of g id ≤ most

-- each node at an element, the node itself or an end of the edge, is within so many edges of the element from which one goes
abbrev pub IsNearTo : Graph → ℕ → Elem → Elem → Type 0
IsNearTo g edges from elem = (id : NodeId) → is_at_element g elem id ≡ true → is_within g edges from id ≡ true

-- no node has a greater in-degree plus out-degree
abbrev pub HasDegreesWithin : Graph → ℕ → Type 0
HasDegreesWithin g most = (id : NodeId) → degree_of g id ≤ most
