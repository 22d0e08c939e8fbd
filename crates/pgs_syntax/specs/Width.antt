-- How wide the types of a schema are, and the first that is too wide. A named type counts with its own width.
use Rattle.std.specs.Prelude.{ℕ, ◌+◌, ◌*◌, Bool, ◌||◌, List, [], ◌∷◌, ◌++◌, length, Option, Some, None, map, filter, sum, if◌then◌else◌, nat_le, nat_lt, option_map, slice_get, unwrap_or}
use Rattle.std.specs.Option.{option_map_or}
use Rattle.pgs_syntax.specs.declared.element_type.NodeType.{NodeType}
use Rattle.pgs_syntax.specs.declared.element_type.EdgeType.{EdgeType}
use Rattle.pgs_syntax.specs.declared.resolved.Resolved.{Resolved}
use Rattle.pgs_syntax.specs.declared.specification.Leaf.{Leaf}
use Rattle.pgs_syntax.specs.declared.specification.Leaf.TheVariants.{Label, Named}
use Rattle.pgs_syntax.specs.declared.specification.Spec as specs
use Rattle.pgs_syntax.specs.declared.specification.Spec.{Spec, Empty, Word, OpenLabels, And', Or', Opt', Row_of-Spec, end_of-Spec, more_of-Spec}

-- how many forms a specification has, and how many labels and properties each has at most
pub record Width : Type 0 where
  pub count : ℕ
  pub weight : ℕ

abbrev pub one_form : ℕ → Width
one_form weight = record { count = 1; weight = weight }

-- both of two, either of two, and at most one
abbrev pub both : Width → Width → Width
both a b = record { count = a.count * b.count; weight = a.weight + b.weight }

abbrev pub either : Width → Width → Width
either a b = record { count = a.count + b.count; weight = a.weight + b.weight }

abbrev pub or_none : Width → Width
or_none a = record { count = a.count + 1; weight = a.weight }

-- the width of a specification, where those of the types that it names are given
abbrev mutual
  pub width_of : List Width → Spec Leaf → Width
  width_of named Empty = one_form 1
  width_of named (Word (Label name)) = one_form 1
  width_of named (Word (Named number)) = unwrap_or (slice_get named number) (one_form 1)
  width_of named OpenLabels = one_form 1
  width_of named (specs.Braces braces) = one_form (1 + length braces.properties)
  width_of named (And' _ parts) = width_of_both named parts
  width_of named (Or' _ parts) = width_of_either named parts
  width_of named (Opt' _ part) = or_none (width_of_both named part)

  pub width_of_both : List Width → {n : _} → Row_of-Spec Leaf n → Width
  width_of_both named end_of-Spec = one_form 0
  width_of_both named (more_of-Spec part parts) = both (width_of named part) (width_of_both named parts)

  pub width_of_either : List Width → {n : _} → Row_of-Spec Leaf n → Width
  width_of_either named end_of-Spec = record { count = 0; weight = 0 }
  width_of_either named (more_of-Spec part parts) = either (width_of named part) (width_of_either named parts)

-- the widths of node types behind those before them: a type names types before itself alone
abbrev pub node_widths : List Width → List (NodeType Leaf) → List Width
node_widths before [] = before
node_widths before (type ∷ types) = node_widths (before ++ width_of before type.spec ∷ []) types

-- the width of an edge type: of its source, its middle and its target together
abbrev pub edge_width : List Width → List Width → EdgeType Leaf → Width
edge_width nodes before type =
    both (width_of nodes type.source) (both (width_of before type.middle) (width_of nodes type.target))

abbrev pub edge_widths : List Width → List Width → List (EdgeType Leaf) → List Width
edge_widths nodes before [] = before
edge_widths nodes before (type ∷ types) = edge_widths nodes (before ++ edge_width nodes before type ∷ []) types

-- a type: its name, its place in the script, and its width
pub record Sized : Type 0 where
  pub name : List ℕ
  pub place : ℕ
  pub width : Width

-- types with their widths
abbrev pub sized_nodes : List (NodeType Leaf) → List Width → List Sized
sized_nodes (type ∷ types) (width ∷ widths) = record { name = type.name; place = type.place; width = width } ∷ sized_nodes types widths
sized_nodes _ _ = []

abbrev pub sized_edges : List (EdgeType Leaf) → List Width → List Sized
sized_edges (type ∷ types) (width ∷ widths) = record { name = type.name; place = type.place; width = width } ∷ sized_edges types widths
sized_edges _ _ = []

abbrev pub sized_types : Resolved → List Sized
sized_types resolved =
    let nodes = node_widths [] resolved.nodes in
    sized_nodes resolved.nodes nodes ++ sized_edges resolved.edges (edge_widths nodes [] resolved.edges)

-- the greatest count of one type, and the greatest sum of count times weight over all
abbrev pub most_forms : ℕ
most_forms = 4096

abbrev pub most_parts : ℕ
most_parts = 4194304

-- count times weight, summed over the types up to a place
abbrev pub parts_up_to : List Sized → ℕ → ℕ
parts_up_to types place =
    sum (map (λ (type : Sized). type.width.count * type.width.weight) (filter (λ (type : Sized). nat_le type.place place) types))

-- whether a type has too many forms, or the types up to it have too many parts
abbrev pub is_too_wide : List Sized → Sized → Bool
is_too_wide types type = nat_lt most_forms type.width.count || nat_lt most_parts (parts_up_to types type.place)

-- the type of the least place
abbrev pub first_of : List Sized → Option Sized
first_of [] = None
first_of (type ∷ types) =
    Some (option_map_or (λ (other : Sized). if nat_le type.place other.place then type else other) (first_of types) type)

-- the name of the first type, by its place, that is too wide
unfoldable pub first_too_wide : Resolved → Option (List ℕ)
first_too_wide resolved =
    let types = sized_types resolved in
    option_map (λ (type : Sized). type.name) (first_of (filter (is_too_wide types) types))
