-- The scope of a key, and the key values of an element.
use Rattle.std.specs.Prelude.{Bool, true, false, List, [], ◌∷◌, ◌++◌, Option, Some, filter, filter_map, slice_get, option_map, option_and_then}
use Rattle.std.specs.Option.{option_map_or}
use Rattle.std.specs.List.{list_any}
use Rattle.std.specs.BTreeSet.{insert_key}
use Rattle.pgs_base.specs.declared.element.Elem.{Elem}
use Rattle.pgs_base.specs.declared.part.Part.{Part}
use Rattle.pgs_base.specs.declared.part.Part.TheVariants as parts
use Rattle.pgs_base.specs.declared.row.NodeRow.{NodeRow}
use Rattle.pgs_base.specs.Graph.{Graph}
use Rattle.pgs_base.specs.Order.{tuple_cmp}
use Rattle.pgs_base.specs.Pair.{value_at}
use Rattle.pgs_syntax.specs.declared.key.Key.{Key}
use Rattle.pgs_syntax.specs.declared.pattern.Expr.{Expr}
use Rattle.pgs_syntax.specs.declared.pattern.Expr.TheVariants.{Element, Property}
use Rattle.pgs_syntax.specs.declared.resolved.Resolved.{Resolved}
use Rattle.pgs_syntax.specs.Matches.{same_elem, carried, elements, matches}

-- whether elements begin with an element, that of variable 0
abbrev pub starts_at : Elem → List Elem → Bool
starts_at elem elems = option_map_or (same_elem elem) (slice_get elems 0) false

-- whether some match of the key's scope starts at an element
abbrev pub is_in_scope : Resolved → Graph → Key → Elem → Bool
is_in_scope resolved g key elem = list_any (starts_at elem) (matches resolved g key.scope)

-- the scope of a key: its elements in order
abbrev pub scope_of : Resolved → Graph → Key → List Elem
scope_of resolved g key = filter (is_in_scope resolved g key) (elements g false ++ elements g true)

-- what an expression gives under a match: the element of the variable, or the property of it, where it is present
abbrev pub part_of : Graph → List Elem → Expr → Option Part
part_of g elems (Element var) = option_map parts.Elem (slice_get elems var)
part_of g elems (Property var key) =
    option_map parts.Value
    (option_and_then (λ (own : NodeRow). value_at key own.props) (option_and_then (carried g) (slice_get elems var)))

-- the tuple of expressions under a match, where each of them gives something
abbrev pub tuple_of : Graph → List Expr → List Elem → Option (List Part)
tuple_of g [] elems = Some []
tuple_of g (expr ∷ exprs) elems =
    option_and_then (λ part. option_map (λ rest. part ∷ rest) (tuple_of g exprs elems)) (part_of g elems expr)

-- tuples as a set: ascending, each once
abbrev pub as_set : List (List Part) → List (List Part)
as_set [] = []
as_set (tuple ∷ tuples) = insert_key tuple_cmp (as_set tuples) tuple

-- the key values of an element: the tuples under the matches of the key's descriptor that start at it
abbrev pub key_values : Resolved → Graph → Key → Elem → List (List Part)
key_values resolved g key elem =
    as_set (filter_map (tuple_of g key.exprs) (filter (starts_at elem) (matches resolved g key.descriptor)))
