-- Which element types a guard uses: those that it lists, those that a pattern of its keys names, and those that a used type names. And to
-- which types some types lead.
use Rattle.std.specs.Prelude.{◌≡◌, ℕ, zero, suc, Bool, true, false, ◌==◌, not, List, [], ◌∷◌, ◌++◌, length, Option, Some, None, map, filter, filter_map, flat_map, slice_get, slice_index_or, if◌then◌else◌}
use Rattle.std.specs.List.{list_any, fold, enumerate_from}
use Rattle.std.specs.Option.{option_map_or}
use Rattle.pgs_base.specs.Pair.{has_name}
use Rattle.pgs_syntax.specs.declared.element_type.NodeType.{NodeType}
use Rattle.pgs_syntax.specs.declared.element_type.EdgeType.{EdgeType}
use Rattle.pgs_syntax.specs.declared.key.Key.{Key}
use Rattle.pgs_syntax.specs.declared.pattern.Atom.{Atom}
use Rattle.pgs_syntax.specs.declared.pattern.Atom.TheVariants.{FitsNode, FitsEdge}
use Rattle.pgs_syntax.specs.declared.resolved.Resolved.{Resolved}
use Rattle.pgs_syntax.specs.declared.resolved.TypeNo.{TypeNo}
use Rattle.pgs_syntax.specs.declared.resolved.TypeNo.TheVariants.{Node, Edge}
use Rattle.pgs_syntax.specs.declared.script.Member.{Member}
use Rattle.pgs_syntax.specs.declared.script.Member.TheVariants as members
use Rattle.pgs_syntax.specs.declared.script.Script.{Script}
use Rattle.pgs_syntax.specs.declared.specification.Leaf.{Leaf}
use Rattle.pgs_syntax.specs.declared.specification.Spec.{Spec}
use Rattle.pgs_syntax.specs.Valid.{is_type}
use Rattle.pgs_resolve_declared.specs.Declarations.{types_of}
use Rattle.pgs_advice.specs.declared.used.Marks.{Marks}
use Rattle.pgs_advice.specs.Parts.{parts_of, number_in}

abbrev pub type_of : (is_edge : Bool) → ℕ → TypeNo
type_of true number = Edge number
type_of false number = Node number

-- the types of one kind that a specification names
abbrev pub type_in : Bool → Spec Leaf → Option TypeNo
type_in is_edge part = option_map_or (λ number. Some (type_of is_edge number)) (number_in part) None

abbrev pub types_in : Bool → Spec Leaf → List TypeNo
types_in is_edge spec = filter_map (type_in is_edge) (parts_of spec)

-- The types that a type names: a node type node types, an edge type edge types in its middle and node types at its ends.
abbrev pub named_by_edge : EdgeType Leaf → List TypeNo
named_by_edge type = types_in true type.middle ++ (types_in false type.source ++ types_in false type.target)

abbrev pub named_by : Resolved → TypeNo → List TypeNo
named_by resolved (Node number) = option_map_or (λ (type : NodeType Leaf). types_in false type.spec) (slice_get resolved.nodes number) []
named_by resolved (Edge number) = option_map_or named_by_edge (slice_get resolved.edges number) []

-- the types that the patterns of a key name
abbrev pub type_at : Atom → Option TypeNo
type_at (FitsNode var number) = Some (Node number)
type_at (FitsEdge var number) = Some (Edge number)
type_at _ = None

abbrev pub named_by_key : Key → List TypeNo
named_by_key key = filter_map type_at key.scope.atoms ++ filter_map type_at key.descriptor.atoms

-- the types that the guard lists, and those that its keys name
abbrev pub first_types : Resolved → List TypeNo
first_types resolved = resolved.guard.types ++ flat_map named_by_key resolved.guard.keys

-- whether a type is among types
abbrev pub is_same_type : TypeNo → TypeNo → Bool
is_same_type (Node a) (Node b) = a == b
is_same_type (Edge a) (Edge b) = a == b
is_same_type _ _ = false

abbrev pub is_among : TypeNo → List TypeNo → Bool
is_among type types = list_any (is_same_type type) types

-- Types lead to a type that is one of them, or that a type to which they lead names.
pub data LeadTo (resolved : Resolved) (types : List TypeNo) : TypeNo → Type 0 where
  first : (type : TypeNo) → is_among type types ≡ true → LeadTo resolved types type
  named : (by type : TypeNo) → LeadTo resolved types by → is_among type (named_by resolved by) ≡ true → LeadTo resolved types type

-- a type is used to which the first types lead
abbrev pub IsUsed : Resolved → TypeNo → Type 0
IsUsed resolved = LeadTo resolved (first_types resolved)

-- All types, each before those that it names: edge types from the last on, and then node types.
abbrev pub numbers_below : ℕ → List ℕ
numbers_below zero = []
numbers_below (suc n) = n ∷ numbers_below n

abbrev pub edges_back : Resolved → List TypeNo
edges_back resolved = map Edge (numbers_below (length resolved.edges))

abbrev pub nodes_back : Resolved → List TypeNo
nodes_back resolved = map Node (numbers_below (length resolved.nodes))

-- types, and those that one of them names
abbrev pub with_named : Resolved → List TypeNo → TypeNo → List TypeNo
with_named resolved used type = if is_among type used then used ++ named_by resolved type else used

-- the types to which types lead
abbrev pub led_to : Resolved → List TypeNo → List TypeNo
led_to resolved types = fold (with_named resolved) (fold (with_named resolved) types (edges_back resolved)) (nodes_back resolved)

-- the used types, and whether a type is one
abbrev pub used_types : Resolved → List TypeNo
used_types resolved = led_to resolved (first_types resolved)

abbrev pub is_used : Resolved → TypeNo → Bool
is_used resolved type = is_among type (used_types resolved)

-- the names of the used types
abbrev pub used_node : Resolved → ℕ × NodeType Leaf → Option (List ℕ)
used_node resolved type = if is_used resolved (Node type.0) then Some type.1.name else None

abbrev pub used_edge : Resolved → ℕ × EdgeType Leaf → Option (List ℕ)
used_edge resolved type = if is_used resolved (Edge type.0) then Some type.1.name else None

abbrev pub used_names : Resolved → List (List ℕ)
used_names resolved =
    filter_map (used_node resolved) (enumerate_from 0 resolved.nodes) ++ filter_map (used_edge resolved) (enumerate_from 0 resolved.edges)

-- the name of a member, and the names of the types of a script, in order, that aren't used
abbrev pub member_name : Member → List ℕ
member_name (members.Named name) = name
member_name (members.Node type) = type.name
member_name (members.Edge type) = type.name

abbrev pub is_unused : List (List ℕ) → List ℕ → Bool
is_unused used name = not (has_name name used)

abbrev pub unused_names : List (List ℕ) → List Member → List (List ℕ)
unused_names used types = filter (is_unused used) (map member_name types)

abbrev pub unused_types : Script → Resolved → List (List ℕ)
unused_types script resolved = unused_names (used_names resolved) (types_of script)

-- ---- marks

-- whether a type is marked
abbrev pub is_marked : Marks → TypeNo → Bool
is_marked marks (Node number) = slice_index_or marks.nodes.items number false
is_marked marks (Edge number) = slice_index_or marks.edges.items number false

-- whether there is a mark for each type, and those are marked that are among these types
pub record AreMarks (resolved : Resolved) (used : List TypeNo) (marks : Marks) : Type 0 where
  pub nodes : length marks.nodes.items ≡ length resolved.nodes
  pub edges : length marks.edges.items ≡ length resolved.edges
  pub are : (type : TypeNo) → is_type resolved type ≡ true → is_marked marks type ≡ is_among type used
