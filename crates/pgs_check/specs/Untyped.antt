-- 25 and 26: the violations of no key; which elements of a changed graph can make one, and the first that does.
use Rattle.std.specs.Prelude.{◌≡◌, ◌≤◌, ◌++◌, ℕ, Bool, true, false, List, [], ◌∷◌, Option, Some, Contains, option_and_then, is_some, filter, filter_map, flat_map, not, if◌then◌else◌}
use Rattle.std.specs.Option.{option_map_or}
use Rattle.std.specs.Ordering.{is_lt}
use Rattle.std.specs.Map.{keys_of}
use Rattle.pgs_base.specs.declared.element.NodeId.{NodeId}
use Rattle.pgs_base.specs.declared.element.EdgeId.{EdgeId}
use Rattle.pgs_base.specs.declared.row.NodeRow.{NodeRow}
use Rattle.pgs_base.specs.declared.row.EdgeRow.{EdgeRow}
use Rattle.pgs_base.specs.Graph.{Graph, node_at, edge_at, edge_cmp}
use Rattle.pgs_graph.specs.declared.delta.Delta.{Delta}
use Rattle.pgs_graph.specs.Reads.{out_edges_of, in_edges_of, degree_of}
use Rattle.pgs_conform.specs.Kinds.{looks_same}
use Rattle.pgs_syntax.specs.declared.resolved.Resolved.{Resolved}
use Rattle.pgs_violation.specs.declared.violation.Violation.{Violation}
use Rattle.pgs_violation.specs.Violations.{untyped_node, untyped_edge, where_asked}

-- 25 for each node and 26 for each edge that isn't typed, where the guard is strict
abbrev pub untyped_violations : Resolved → Graph → List Violation
untyped_violations resolved g =
    where_asked resolved.guard.strict (filter_map (untyped_node resolved) g.nodes ++ filter_map (untyped_edge resolved g) g.edges)

-- 25 for a node that a change leaves untyped, by the row that it leaves
abbrev pub untyped_change : Resolved → NodeId × Option NodeRow → Option Violation
untyped_change resolved change = option_and_then (λ row. untyped_node resolved (change.0, row)) change.1

-- 26 for the edge of a number, where it is there and isn't typed
abbrev pub untyped_edge_at : Resolved → Graph → EdgeId → Option Violation
untyped_edge_at resolved g id = option_and_then (λ (row : EdgeRow). untyped_edge resolved g (id, row)) (edge_at g id)

-- whether it is there and isn't typed
abbrev pub is_untyped_edge : Resolved → Graph → EdgeId → Bool
is_untyped_edge resolved g id = is_some (untyped_edge_at resolved g id)

-- whether what was found is the edge of a number, or one of a lesser number
abbrev pub is_found_before : Option EdgeId → EdgeId → Bool
is_found_before found id = option_map_or (λ least. not (is_lt (edge_cmp id least))) found false

-- of edges that pass a test, the one of the least number, where another was found before
abbrev pub least_edge : (EdgeId → Bool) → Option EdgeId → List EdgeId → Option EdgeId
least_edge test found [] = found
least_edge test found (id ∷ ids) = least_edge test (if is_found_before found id then found else if test id then Some id else found) ids

-- what was found is, or goes before, each edge of a list that passes a test
abbrev pub IsSettled : (EdgeId → Bool) → Option EdgeId → List EdgeId → Type 0
IsSettled test found ids = (id : EdgeId) → Contains ids id → test id ≡ true → is_found_before found id ≡ true

-- the edges at a node, those that go out first
abbrev pub edges_at : Graph → NodeId → List EdgeId
edges_at g id = out_edges_of g id ++ in_edges_of g id

-- the edges that a delta can leave untyped: its own, and those of the changed graph at its nodes
abbrev pub touched_edges : Graph → Delta → List EdgeId
touched_edges g delta = keys_of delta.edges ++ flat_map (edges_at g) (keys_of delta.nodes)

-- whether a change leaves a node that looks the same to types as it did
abbrev pub looks_as_before : Graph → NodeId × Option NodeRow → Bool
looks_as_before g change =
    option_map_or (λ (row : NodeRow). option_map_or (λ before. looks_same before row) (node_at g change.0) false) change.1 false

-- the nodes of changes that don't
abbrev pub retyped_nodes : Graph → List (NodeId × Option NodeRow) → List NodeId
retyped_nodes g changes = keys_of (filter (λ change. not (looks_as_before g change)) changes)

-- no node of a graph, and no edge, isn't typed
abbrev pub IsTyped : Resolved → Graph → Type 0
IsTyped resolved g = (filter_map (untyped_node resolved) g.nodes ≡ []) × (filter_map (untyped_edge resolved g) g.edges ≡ [])

-- none of these nodes has a greater in-degree plus out-degree
abbrev pub HaveDegreesWithin : Graph → List NodeId → ℕ → Type 0
HaveDegreesWithin g ids most = (id : NodeId) → Contains ids id → degree_of g id ≤ most
