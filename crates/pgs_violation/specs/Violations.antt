-- The violations of a graph under a schema, in order, and the verdict on it. A violation of an element and a key is found from
-- the key's scope and the key values of its elements alone.
use Rattle.std.specs.Prelude.{ℕ, ◌+◌, Bool, true, false, List, [], ◌∷◌, ◌++◌, Option, Some, None, filter, filter_map, find, slice_get, option_map, if◌then◌else◌, ◌&&◌, nat_le, length}
use Rattle.std.specs.Ordering.{is_lt}
use Rattle.std.specs.List.{list_any}
use Rattle.std.specs.BTreeMap.{is_at}
use Rattle.pgs_base.specs.declared.element.NodeId.{NodeId}
use Rattle.pgs_base.specs.declared.element.EdgeId.{EdgeId}
use Rattle.pgs_base.specs.declared.element.Elem.{Elem}
use Rattle.pgs_base.specs.declared.part.Part.{Part}
use Rattle.pgs_base.specs.declared.row.NodeRow.{NodeRow}
use Rattle.pgs_base.specs.declared.row.EdgeRow.{EdgeRow}
use Rattle.pgs_base.specs.Graph.{Graph}
use Rattle.pgs_base.specs.Order.{elem_cmp, tuple_cmp}
use Rattle.pgs_syntax.specs.declared.key.Key.{Key}
use Rattle.pgs_syntax.specs.declared.resolved.Resolved.{Resolved}
use Rattle.pgs_syntax.specs.Join.{is_empty}
use Rattle.pgs_syntax.specs.KeyValues.{scope_of, key_values}
use Rattle.pgs_syntax.specs.Typed.{is_typed_node, is_typed_edge}
use Rattle.pgs_violation.specs.declared.violation.Verdict.{Verdict}
use Rattle.pgs_violation.specs.declared.violation.Verdict.TheVariants.{Conforms, Refused}
use Rattle.pgs_violation.specs.declared.violation.Violation.{Violation}
use Rattle.pgs_violation.specs.declared.violation.Violation.TheVariants.{UntypedNode, UntypedEdge, Mandatory, Singleton, Exclusive, CountOutside}

-- 25 for a node that isn't typed, and 26 for an edge that isn't
abbrev pub untyped_node : Resolved → NodeId × NodeRow → Option Violation
untyped_node resolved node = if is_typed_node resolved node.1 then None else Some (UntypedNode node.0)

abbrev pub untyped_edge : Resolved → Graph → EdgeId × EdgeRow → Option Violation
untyped_edge resolved g edge = if is_typed_edge resolved g edge.1 then None else Some (UntypedEdge edge.0)

-- 27 for an element without a key value
abbrev pub mandatory_violation : ℕ → (Elem → List (List Part)) → Elem → Option Violation
mandatory_violation number values elem = if is_empty (values elem) then Some (Mandatory number elem) else None

-- 28 for an element with several key values, with the two least
abbrev pub two_least : ℕ → Elem → List (List Part) → Option Violation
two_least number elem (first ∷ second ∷ rest) = Some (Singleton number elem first second)
two_least number elem _ = None

abbrev pub singleton_violation : ℕ → (Elem → List (List Part)) → Elem → Option Violation
singleton_violation number values elem = two_least number elem (values elem)

-- the least tuple that two sets share
abbrev pub shared_tuple : List (List Part) → List (List Part) → Option (List Part)
shared_tuple first second = find (λ tuple. list_any (is_at (tuple_cmp tuple)) second) first

-- the elements of a scope that come after an element
abbrev pub later_than : Elem → List Elem → List Elem
later_than elem scope = filter (λ other. is_lt (elem_cmp elem other)) scope

-- the violation that two elements make that share a key value
abbrev pub sharing : ℕ → (Elem → List (List Part)) → Elem → Elem → Option Violation
sharing number values first second = option_map (Exclusive number first second) (shared_tuple (values first) (values second))

-- 29 for an element that shares a key value with a later element of the scope, with the first of these
abbrev pub exclusive_violation : ℕ → List Elem → (Elem → List (List Part)) → Elem → Option Violation
exclusive_violation number scope values elem = slice_get (filter_map (sharing number values elem) (later_than elem scope)) 0

-- whether a number is at least the first bound and at most the second
abbrev pub is_within : ℕ × ℕ → ℕ → Bool
is_within bounds count = nat_le bounds.0 count && nat_le count bounds.1

-- 39 for an element whose number of key values isn't within the bounds, with that number
abbrev pub count_outside : ℕ → ℕ × ℕ → Elem → List (List Part) → Option Violation
count_outside number bounds elem tuples =
    if is_within bounds (length tuples) then None else Some (CountOutside number elem (length tuples) bounds.0 bounds.1)

abbrev pub count_violation : ℕ → (Elem → List (List Part)) → ℕ × ℕ → Elem → Option Violation
count_violation number values bounds elem = count_outside number bounds elem (values elem)

-- what is found, where it is asked for
abbrev pub where_asked : Bool → List Violation → List Violation
where_asked true found = found
where_asked false found = []

-- what is found by bounds, where there are some
abbrev pub where_bounded : Option (ℕ × ℕ) → (ℕ × ℕ → List Violation) → List Violation
where_bounded None found = []
where_bounded (Some bounds) found = found bounds

-- the violations of one key, of this number
abbrev pub key_violations : Resolved → Graph → ℕ → Key → List Violation
key_violations resolved g number key =
    let scope = scope_of resolved g key in
    let values = key_values resolved g key in
    where_asked key.qualifiers.mandatory (filter_map (mandatory_violation number values) scope)
    ++ where_asked key.qualifiers.singleton (filter_map (singleton_violation number values) scope)
    ++ where_asked key.qualifiers.exclusive (filter_map (exclusive_violation number scope values) scope)
    ++ where_bounded key.qualifiers.count (λ bounds. filter_map (count_violation number values bounds) scope)

-- the violations of keys, of which the first has this number
abbrev pub keys_violations : Resolved → Graph → ℕ → List Key → List Violation
keys_violations resolved g number [] = []
keys_violations resolved g number (key ∷ keys) = key_violations resolved g number key ++ keys_violations resolved g (number + 1) keys

-- the violations of a graph: untyped nodes and edges where the guard is strict, and then those of each key
abbrev pub violations : Resolved → Graph → List Violation
violations resolved g =
    where_asked resolved.guard.strict (filter_map (untyped_node resolved) g.nodes ++ filter_map (untyped_edge resolved g) g.edges)
    ++ keys_violations resolved g 1 resolved.guard.keys

-- whether a graph conforms to a schema
abbrev pub conforms : Resolved → Graph → Bool
conforms resolved g = is_empty (violations resolved g)

-- the first violation, or that there is none
abbrev pub first_of : List Violation → Verdict
first_of [] = Conforms
first_of (violation ∷ rest) = Refused violation

-- the verdict on a graph
abbrev pub verdict : Resolved → Graph → Verdict
verdict resolved g = first_of (violations resolved g)
