-- Which types the pair of a node fits, and the triple of an edge.
use Rattle.std.specs.Prelude.{Bool, false, List, [], filter}
use Rattle.std.specs.Option.{option_map_or}
use Rattle.pgs_base.specs.declared.row.NodeRow.{NodeRow}
use Rattle.pgs_base.specs.declared.row.EdgeRow.{EdgeRow}
use Rattle.pgs_base.specs.Graph.{Graph}
use Rattle.pgs_syntax.specs.declared.resolved.Resolved.{Resolved}
use Rattle.pgs_syntax.specs.declared.resolved.TypeNo.{TypeNo}
use Rattle.pgs_syntax.specs.declared.resolved.TypeNo.TheVariants.{Node, Edge}
use Rattle.pgs_syntax.specs.Fitting.{fits_node, fits_edge}
use Rattle.pgs_syntax.specs.Join.{PairTriple}
use Rattle.pgs_syntax.specs.Typed.{triple_at}

-- whether a type is one of nodes, and a pair fits it
abbrev pub fits_as_node : Resolved → NodeRow → TypeNo → Bool
fits_as_node resolved p (Node number) = fits_node resolved number p
fits_as_node resolved p (Edge number) = false

-- whether a type is one of edges, and a triple fits it
abbrev pub fits_as_edge : Resolved → PairTriple → TypeNo → Bool
fits_as_edge resolved t (Node number) = false
fits_as_edge resolved t (Edge number) = fits_edge resolved number t

-- the types of the guard that the edge of this row fits in a graph
abbrev pub edge_types_of : Resolved → Graph → EdgeRow → List TypeNo
edge_types_of resolved g row = option_map_or (λ t. filter (fits_as_edge resolved t) resolved.guard.types) (triple_at g row) []
