-- Which keys and which resolved schemas are valid: their numbers are in range and of the right kind, their patterns are
-- connected and within the limits, and types name only types before them.
use Rattle.std.specs.Prelude.{ℕ, Bool, true, false, ◌&&◌, ◌||◌, ◌==◌, ◌+◌, ◌++◌, not, List, [], ◌∷◌, length, map, nat_le, nat_lt, slice_get, slice_index, if◌then◌else◌}
use Rattle.std.specs.Option.{option_map_or}
use Rattle.std.specs.List.{list_any, list_all, enumerate_from}
use Rattle.pgs_base.specs.Pair.{same_name}
use Rattle.pgs_syntax.specs.declared.element_type.NodeType.{NodeType}
use Rattle.pgs_syntax.specs.declared.element_type.EdgeType.{EdgeType}
use Rattle.pgs_syntax.specs.declared.key.Key.{Key}
use Rattle.pgs_syntax.specs.declared.pattern.Atom.{Atom}
use Rattle.pgs_syntax.specs.declared.pattern.Atom.TheVariants.{Ends, HasLabel, FitsNode, FitsEdge, Equals}
use Rattle.pgs_syntax.specs.declared.pattern.Expr.{Expr}
use Rattle.pgs_syntax.specs.declared.pattern.Expr.TheVariants.{Element, Property}
use Rattle.pgs_syntax.specs.declared.pattern.Pattern.{Pattern}
use Rattle.pgs_syntax.specs.declared.resolved.Resolved.{Resolved}
use Rattle.pgs_syntax.specs.declared.resolved.TypeNo.{TypeNo}
use Rattle.pgs_syntax.specs.declared.resolved.TypeNo.TheVariants.{Node, Edge}
use Rattle.pgs_syntax.specs.declared.specification.Leaf.{Leaf}
use Rattle.pgs_syntax.specs.declared.specification.Leaf.TheVariants.{Named}
use Rattle.pgs_syntax.specs.declared.specification.Property.{Property as BracedProperty}
use Rattle.pgs_syntax.specs.declared.specification.Spec as specs
use Rattle.pgs_syntax.specs.declared.specification.Spec.{Spec, Word, And', Or', Opt', Row_of-Spec, end_of-Spec, more_of-Spec}

-- whether a variable is an edge of the pattern, and whether it is a node
abbrev pub is_edge_var : List Bool → ℕ → Bool
is_edge_var edge_vars var = option_map_or (λ is_edge. is_edge) (slice_get edge_vars var) false

abbrev pub is_node_var : List Bool → ℕ → Bool
is_node_var edge_vars var = option_map_or not (slice_get edge_vars var) false

-- whether the variables of an atom are in range and of the kinds that it speaks of
abbrev pub speaks_of : List Bool → Atom → Bool
speaks_of edge_vars (Ends edge source target) =
    is_edge_var edge_vars edge && is_node_var edge_vars source && is_node_var edge_vars target
speaks_of edge_vars (HasLabel var label) = nat_lt var (length edge_vars)
speaks_of edge_vars (FitsNode var number) = is_node_var edge_vars var
speaks_of edge_vars (FitsEdge var number) = is_edge_var edge_vars var
speaks_of edge_vars (Equals var key value) = nat_lt var (length edge_vars)

-- whether an atom gives the ends of an edge variable
abbrev pub gives_ends : ℕ → Atom → Bool
gives_ends var (Ends edge source target) = var == edge
gives_ends var _ = false

-- whether each edge variable has its ends, or is the only variable
abbrev pub has_all_ends : Pattern → Bool
has_all_ends pattern =
    length pattern.edge_vars == 1
    || list_all (λ (place : ℕ × Bool). not place.1 || list_any (gives_ends place.0) pattern.atoms) (enumerate_from 0 pattern.edge_vars)

-- the groups of variables, as a number for each, after the groups of two are put together
abbrev pub together : ℕ → ℕ → List ℕ → List ℕ
together a b groups = map (λ group. if group == slice_index groups a then slice_index groups b else group) groups

-- The groups of a pattern's variables: at first each is alone, and each edge is put together with its ends.
abbrev pub groups_after : List ℕ → List Atom → List ℕ
groups_after groups [] = groups
groups_after groups (Ends edge source target ∷ atoms) = groups_after (together edge source (together edge target groups)) atoms
groups_after groups (_ ∷ atoms) = groups_after groups atoms

-- whether all variables of a pattern are in one group
abbrev pub is_connected : Pattern → Bool
is_connected pattern =
    let groups = groups_after (map (λ (place : ℕ × Bool). place.0) (enumerate_from 0 pattern.edge_vars)) pattern.atoms in
    list_all (λ group. group == slice_index groups 0) groups

-- how many variables are edges
abbrev pub edge_count : List Bool → ℕ
edge_count [] = 0
edge_count (is_edge ∷ rest) = (if is_edge then 1 else 0) + edge_count rest

-- whether a pattern is well formed and has 1 to 20 variables, of which at most 8 are edges
abbrev pub is_valid_pattern : Pattern → Bool
is_valid_pattern pattern =
    nat_le 1 (length pattern.edge_vars) && nat_le (length pattern.edge_vars) 20 && nat_le (edge_count pattern.edge_vars) 8
    && list_all (speaks_of pattern.edge_vars) pattern.atoms && has_all_ends pattern && is_connected pattern

-- the variable that an expression reads
abbrev pub read_var : Expr → ℕ
read_var (Element var) = var
read_var (Property var key) = var

-- whether two variables are both edges or both nodes
abbrev pub are_one_kind : Bool → Bool → Bool
are_one_kind true other = other
are_one_kind false other = not other

-- whether a key is valid: both patterns are, its element is of one kind in both, and it has at most 16 expressions, which
-- read variables of the descriptor
abbrev pub is_valid_key : Key → Bool
is_valid_key key =
    is_valid_pattern key.scope && is_valid_pattern key.descriptor
    && are_one_kind (is_edge_var key.scope.edge_vars 0) (is_edge_var key.descriptor.edge_vars 0)
    && nat_le (length key.exprs) 16
    && list_all (λ (expr : Expr). nat_lt (read_var expr) (length key.descriptor.edge_vars)) key.exprs

-- whether no two items are the same
abbrev pub are_distinct : {X : Type 0} → (X → X → Bool) → List X → Bool
are_distinct same [] = true
are_distinct same (x ∷ xs) = not (list_any (same x) xs) && are_distinct same xs

-- whether a specification names only types of numbers below a bound, and no braces name a key twice
abbrev mutual
  pub is_valid_spec : ℕ → Spec Leaf → Bool
  is_valid_spec bound (Word (Named number)) = nat_lt number bound
  is_valid_spec bound (specs.Braces braces) =
      are_distinct (λ (a : BracedProperty) (b : BracedProperty). same_name a.key b.key) braces.properties
  is_valid_spec bound (And' _ parts) = are_valid_specs bound parts
  is_valid_spec bound (Or' _ parts) = are_valid_specs bound parts
  is_valid_spec bound (Opt' _ part) = are_valid_specs bound part
  is_valid_spec bound _ = true

  pub are_valid_specs : ℕ → {n : _} → Row_of-Spec Leaf n → Bool
  are_valid_specs bound end_of-Spec = true
  are_valid_specs bound (more_of-Spec part parts) = is_valid_spec bound part && are_valid_specs bound parts

-- whether node types, the first of which has this number, name only types before themselves, and no braces in them name a
-- key twice
abbrev pub are_valid_nodes : ℕ → List (NodeType Leaf) → Bool
are_valid_nodes number [] = true
are_valid_nodes number (type ∷ types) = is_valid_spec number type.spec && are_valid_nodes (number + 1) types

-- the same of edge types, which name any of so many node types at their ends
abbrev pub are_valid_edges : ℕ → ℕ → List (EdgeType Leaf) → Bool
are_valid_edges nodes number [] = true
are_valid_edges nodes number (type ∷ types) =
    is_valid_spec nodes type.source && is_valid_spec number type.middle && is_valid_spec nodes type.target
    && are_valid_edges nodes (number + 1) types

-- whether there is a type of this number
abbrev pub is_type : Resolved → TypeNo → Bool
is_type resolved (Node number) = nat_lt number (length resolved.nodes)
is_type resolved (Edge number) = nat_lt number (length resolved.edges)

-- whether the type that an atom names is there
abbrev pub names_types : Resolved → Atom → Bool
names_types resolved (FitsNode var number) = is_type resolved (Node number)
names_types resolved (FitsEdge var number) = is_type resolved (Edge number)
names_types resolved _ = true

-- whether a key is valid and names only types that are there
abbrev pub is_valid_key_of : Resolved → Key → Bool
is_valid_key_of resolved key =
    is_valid_key key && list_all (names_types resolved) key.scope.atoms && list_all (names_types resolved) key.descriptor.atoms

-- the places of all types in the script
abbrev pub places_of : Resolved → List ℕ
places_of resolved =
    map (λ (type : NodeType Leaf). type.place) resolved.nodes ++ map (λ (type : EdgeType Leaf). type.place) resolved.edges

-- whether a resolved schema is valid: its types name only types before themselves, none of their braces names a key twice, no
-- two have one place, the guard's types are there, and it has at most 256 keys, which are valid
abbrev pub is_valid : Resolved → Bool
is_valid resolved =
    are_valid_nodes 0 resolved.nodes && are_valid_edges (length resolved.nodes) 0 resolved.edges
    && are_distinct (λ a b. a == b) (places_of resolved) && list_all (is_type resolved) resolved.guard.types
    && nat_le (length resolved.guard.keys) 256 && list_all (is_valid_key_of resolved) resolved.guard.keys
