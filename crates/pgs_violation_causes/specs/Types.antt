-- The causes of an element that fits no type: the types of the guard that it comes nearest to, each with its differences.
use Rattle.std.specs.Prelude.{◌≡◌, ℕ, List, [], ◌∷◌, Option, Some, None, codes, filter_map, slice_get, option_map, option_and_then}
use Rattle.pgs_base.specs.declared.element.EdgeId.{EdgeId}
use Rattle.pgs_base.specs.declared.row.NodeRow.{NodeRow}
use Rattle.pgs_base.specs.Graph.{Graph, edge_at}
use Rattle.pgs_syntax.specs.declared.element_type.NodeType.{NodeType}
use Rattle.pgs_syntax.specs.declared.element_type.EdgeType.{EdgeType}
use Rattle.pgs_syntax.specs.declared.resolved.Resolved.{Resolved}
use Rattle.pgs_syntax.specs.declared.resolved.TypeNo.{TypeNo}
use Rattle.pgs_syntax.specs.declared.resolved.TypeNo.TheVariants.{Node, Edge}
use Rattle.pgs_syntax.specs.declared.specification.Leaf.{Leaf}
use Rattle.pgs_syntax.specs.Join.{PairTriple}
use Rattle.pgs_syntax.specs.Typed.{triple_at}
use Rattle.pgs_differences.specs.declared.near_type.NearType.{NearType}
use Rattle.pgs_differences.specs.Nearest.{IsNodeCandidate, IsEdgeCandidate, AreNearest}
use Rattle.pgs_differences.specs.Texts.{near_type_text}

-- the name of a type
abbrev pub type_name : Resolved → TypeNo → Option (List ℕ)
type_name resolved (Node number) = option_map (λ (type : NodeType Leaf). type.name) (slice_get resolved.nodes number)
type_name resolved (Edge number) = option_map (λ (type : EdgeType Leaf). type.name) (slice_get resolved.edges number)

-- a type with its differences
abbrev pub near_text : Resolved → NearType → Option (List ℕ)
near_text resolved near = option_map (λ name. near_type_text name near) (type_name resolved near.type_no)

abbrev pub no_node_type_text : List ℕ
no_node_type_text = codes "the guard has no node type that anything fits"

abbrev pub no_edge_type_text : List ℕ
no_edge_type_text = codes "the guard has no edge type that anything fits"

-- what is told of nearest types: each with its differences; of none one text says so
abbrev pub nearest_texts : Resolved → (none : List ℕ) → List NearType → List (List ℕ)
nearest_texts resolved none [] = none ∷ []
nearest_texts resolved none (near ∷ nears) = filter_map (near_text resolved) (near ∷ nears)

-- these are the texts of the nearest types, where it is said what a type's candidate is
abbrev pub AreNearestTexts : Resolved → (TypeNo → List NearType → Type 0) → (none : List ℕ) → List (List ℕ) → Type 0
AreNearestTexts resolved IsCandidate none texts =
    (nears : List NearType) × AreNearest IsCandidate resolved.guard.types nears × (texts ≡ nearest_texts resolved none nears)

-- the causes of a node that fits no type, by its pair, and of an edge, by its triple; none of one that isn't there
abbrev pub AreNodeCauses : Resolved → Option NodeRow → List (List ℕ) → Type 0
AreNodeCauses resolved None texts = texts ≡ []
AreNodeCauses resolved (Some p) texts = AreNearestTexts resolved (IsNodeCandidate resolved p) no_node_type_text texts

abbrev pub AreEdgeCauses : Resolved → Option PairTriple → List (List ℕ) → Type 0
AreEdgeCauses resolved None texts = texts ≡ []
AreEdgeCauses resolved (Some t) texts = AreNearestTexts resolved (IsEdgeCandidate resolved t) no_edge_type_text texts

-- the triple of the edge of a number
abbrev pub triple_of_edge : Graph → EdgeId → Option PairTriple
triple_of_edge g id = option_and_then (triple_at g) (edge_at g id)
