-- The types that a graph type declares: its members without those that are listed by name.
use Rattle.std.proofs.Common.{◌≡◌, ℕ, List, [], ◌∷◌, filter, refl, ap}
use Rattle.std.specs.List.{filter_map}
use Rattle.pgs_syntax.specs.declared.element_type.NodeType.{NodeType}
use Rattle.pgs_syntax.specs.declared.element_type.EdgeType.{EdgeType}
use Rattle.pgs_syntax.specs.declared.script.Member.{Member}
use Rattle.pgs_syntax.specs.declared.script.Member.TheVariants as members
use Rattle.pgs_resolve_declared.specs.Declarations.{is_declared, node_in, edge_in}

pub nodes_declared : (members : List Member) → filter_map node_in (filter is_declared members) ≡ filter_map node_in members
nodes_declared [] = refl
nodes_declared (members.Named name ∷ rest) = nodes_declared rest
nodes_declared (members.Node type ∷ rest) = ap (λ (types : List (NodeType (List ℕ))). type ∷ types) (nodes_declared rest)
nodes_declared (members.Edge type ∷ rest) = nodes_declared rest

pub edges_declared : (members : List Member) → filter_map edge_in (filter is_declared members) ≡ filter_map edge_in members
edges_declared [] = refl
edges_declared (members.Named name ∷ rest) = edges_declared rest
edges_declared (members.Node type ∷ rest) = edges_declared rest
edges_declared (members.Edge type ∷ rest) = ap (λ (types : List (EdgeType (List ℕ))). type ∷ types) (edges_declared rest)
