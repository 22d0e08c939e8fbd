-- The violation that the node, or the edge, of a number makes where it is there and isn't typed.
use Rattle.std.specs.Prelude.{List, ◌++◌, Option, option_and_then, filter_map}
use Rattle.pgs_base.specs.declared.element.NodeId.{NodeId}
use Rattle.pgs_base.specs.declared.element.EdgeId.{EdgeId}
use Rattle.pgs_base.specs.declared.row.NodeRow.{NodeRow}
use Rattle.pgs_base.specs.declared.row.EdgeRow.{EdgeRow}
use Rattle.pgs_base.specs.Graph.{Graph, node_at, edge_at}
use Rattle.pgs_syntax.specs.declared.resolved.Resolved.{Resolved}
use Rattle.pgs_violation.specs.declared.violation.Violation.{Violation}
use Rattle.pgs_violation.specs.Violations.{untyped_node, untyped_edge, where_asked}

abbrev pub untyped_node_at : Resolved → Graph → NodeId → Option Violation
untyped_node_at resolved g id = option_and_then (λ (row : NodeRow). untyped_node resolved (id, row)) (node_at g id)

abbrev pub untyped_edge_at : Resolved → Graph → EdgeId → Option Violation
untyped_edge_at resolved g id = option_and_then (λ (row : EdgeRow). untyped_edge resolved g (id, row)) (edge_at g id)

-- 25 for each node and 26 for each edge that isn't typed, where the guard is strict
abbrev pub untyped_violations : Resolved → Graph → List Violation
untyped_violations resolved g =
    where_asked resolved.guard.strict (filter_map (untyped_node resolved) g.nodes ++ filter_map (untyped_edge resolved g) g.edges)
