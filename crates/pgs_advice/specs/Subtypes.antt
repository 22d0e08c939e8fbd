-- The types that a key names, and with each the subtypes of it that the guard has.
use Rattle.std.specs.Prelude.{◌≡◌, Bool, true, false, ◌&&◌, not, List, [], ◌∷◌, ◌++◌, map, filter, flat_map, slice_get, All, if◌then◌else◌}
use Rattle.std.specs.List.{fold}
use Rattle.std.specs.Option.{option_map_or}
use Rattle.pgs_syntax.specs.declared.element_type.NodeType.{NodeType}
use Rattle.pgs_syntax.specs.declared.element_type.EdgeType.{EdgeType}
use Rattle.pgs_syntax.specs.declared.key.Key.{Key}
use Rattle.pgs_syntax.specs.declared.resolved.Resolved.{Resolved}
use Rattle.pgs_syntax.specs.declared.resolved.TypeNo.{TypeNo}
use Rattle.pgs_syntax.specs.declared.resolved.TypeNo.TheVariants.{Node, Edge}
use Rattle.pgs_syntax.specs.declared.specification.Leaf.{Leaf}
use Rattle.pgs_advice.specs.declared.subtypes.Naming.{Naming}
use Rattle.pgs_advice.specs.declared.subtypes.Subtype.{Subtype}
use Rattle.pgs_advice.specs.Used.{LeadTo, led_to, named_by, named_by_key, is_among, AreMarks}

-- A type names another, itself or through others: what it names leads to that one.
abbrev pub Names : Resolved → (own base : TypeNo) → Type 0
Names resolved own base = LeadTo resolved (named_by resolved own) base

-- the same as a test
abbrev pub all_named : Resolved → TypeNo → List TypeNo
all_named resolved own = led_to resolved (named_by resolved own)

abbrev pub names : Resolved → (own base : TypeNo) → Bool
names resolved own base = is_among base (all_named resolved own)

-- whether both are node types, or both edge types
abbrev pub is_one_kind : TypeNo → TypeNo → Bool
is_one_kind (Node a) (Node b) = true
is_one_kind (Edge a) (Edge b) = true
is_one_kind _ _ = false

-- whether a type is a subtype of a base: it is of the base's kind, and names it
abbrev pub is_subtype : Resolved → (base own : TypeNo) → Bool
is_subtype resolved base own = is_one_kind base own && names resolved own base

-- whether a type is there and isn't ABSTRACT, and the types of the guard that are so
abbrev pub is_shown : Resolved → TypeNo → Bool
is_shown resolved (Node number) = option_map_or (λ (type : NodeType Leaf). not type.hidden) (slice_get resolved.nodes number) false
is_shown resolved (Edge number) = option_map_or (λ (type : EdgeType Leaf). not type.hidden) (slice_get resolved.edges number) false

abbrev pub shown_types : Resolved → List TypeNo
shown_types resolved = filter (is_shown resolved) resolved.guard.types

-- a base with each of these that is a subtype of it, and so with those of the guard
abbrev pub of_base : TypeNo → TypeNo → Subtype
of_base base own = record { base = base; own = own }

abbrev pub subtypes_among : Resolved → TypeNo → List TypeNo → List Subtype
subtypes_among resolved base types = map (of_base base) (filter (is_subtype resolved base) types)

abbrev pub subtypes_of : Resolved → TypeNo → List Subtype
subtypes_of resolved base = subtypes_among resolved base (shown_types resolved)

-- types, each once, by their first places
abbrev pub with_type : List TypeNo → TypeNo → List TypeNo
with_type types type = if is_among type types then types else types ++ type ∷ []

-- the types that a key names, by their first places, each with its subtypes
abbrev pub bases_of : Key → List TypeNo
bases_of key = fold with_type [] (named_by_key key)

abbrev pub key_subtypes : Resolved → Key → List Subtype
key_subtypes resolved key = flat_map (subtypes_of resolved) (bases_of key)

-- ---- types with marks

abbrev pub own_type : Naming → TypeNo
own_type naming = naming.number

-- what a type names is marked
abbrev pub IsNaming : Resolved → Naming → Type 0
IsNaming resolved naming = AreMarks resolved (all_named resolved naming.number) naming.named

-- so of each of these types
pub record AreNamings (resolved : Resolved) (types : List TypeNo) (namings : List Naming) : Type 0 where
  pub numbers : map own_type namings ≡ types
  pub marks : All (IsNaming resolved) namings
