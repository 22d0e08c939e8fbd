-- Which elements are typed: those that fit a type of the guard that isn't abstract.
use Rattle.std.specs.Prelude.{ℕ, Bool, false, ◌&&◌, not, Option, slice_get, option_and_then}
use Rattle.std.specs.Option.{option_map, option_map_or}
use Rattle.std.specs.List.{list_any}
use Rattle.pgs_base.specs.declared.row.NodeRow.{NodeRow}
use Rattle.pgs_base.specs.declared.row.EdgeRow.{EdgeRow}
use Rattle.pgs_base.specs.Graph.{Graph, node_at}
use Rattle.pgs_base.specs.Pair.{pair_of}
use Rattle.pgs_syntax.specs.declared.element_type.NodeType.{NodeType}
use Rattle.pgs_syntax.specs.declared.element_type.EdgeType.{EdgeType}
use Rattle.pgs_syntax.specs.declared.resolved.Resolved.{Resolved}
use Rattle.pgs_syntax.specs.declared.resolved.TypeNo.{TypeNo}
use Rattle.pgs_syntax.specs.declared.resolved.TypeNo.TheVariants.{Node, Edge}
use Rattle.pgs_syntax.specs.declared.specification.Leaf.{Leaf}
use Rattle.pgs_syntax.specs.Join.{PairTriple}
use Rattle.pgs_syntax.specs.Fitting.{fits_node, fits_edge}

-- whether a node type, and an edge type, is there and isn't abstract
abbrev pub is_concrete_node_type : Resolved → ℕ → Bool
is_concrete_node_type resolved number = option_map_or (λ (type : NodeType Leaf). not type.hidden) (slice_get resolved.nodes number) false

abbrev pub is_concrete_edge_type : Resolved → ℕ → Bool
is_concrete_edge_type resolved number = option_map_or (λ (type : EdgeType Leaf). not type.hidden) (slice_get resolved.edges number) false

-- whether a type makes a node of this pair typed
abbrev pub types_node : Resolved → NodeRow → TypeNo → Bool
types_node resolved p (Node number) = is_concrete_node_type resolved number && fits_node resolved number p
types_node resolved p (Edge number) = false

-- whether a type makes an edge of this triple typed
abbrev pub types_edge : Resolved → PairTriple → TypeNo → Bool
types_edge resolved t (Node number) = false
types_edge resolved t (Edge number) = is_concrete_edge_type resolved number && fits_edge resolved number t

-- whether a node of this pair is typed
abbrev pub is_typed_node : Resolved → NodeRow → Bool
is_typed_node resolved p = list_any (types_node resolved p) resolved.guard.types

-- whether an edge of this triple is typed
abbrev pub is_typed_triple : Resolved → PairTriple → Bool
is_typed_triple resolved t = list_any (types_edge resolved t) resolved.guard.types

-- the triple of an edge: the pairs of its source, of itself and of its target, where both ends are there
abbrev pub triple_at : Graph → EdgeRow → Option PairTriple
triple_at g row =
    option_and_then (λ source. option_map (λ target. record { source = source; own = pair_of row.labels row.props; target = target })
    (node_at g row.target)) (node_at g row.source)

-- whether the edge of this row is typed in a graph
abbrev pub is_typed_edge : Resolved → Graph → EdgeRow → Bool
is_typed_edge resolved g row = option_map_or (is_typed_triple resolved) (triple_at g row) false
