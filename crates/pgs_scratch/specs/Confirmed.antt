-- The one violation in the list of a graph's violations that has the key, the number and the least element of a given violation.
use Rattle.std.specs.Prelude.{ℕ, Bool, ◌&&◌, List, Option, Some, None, slice_get, option_and_then, if◌then◌else◌}
use Prim.Native.Nat.{zero, suc}
use Rattle.std.specs.Ordering.{is_lt}
use Rattle.pgs_base.specs.declared.element.Elem.{Elem}
use Rattle.pgs_base.specs.declared.part.Part.{Part}
use Rattle.pgs_base.specs.Graph.{Graph}
use Rattle.pgs_base.specs.Order.{elem_cmp}
use Rattle.pgs_syntax.specs.declared.key.Key.{Key}
use Rattle.pgs_syntax.specs.declared.resolved.Resolved.{Resolved}
use Rattle.pgs_syntax.specs.KeyValues.{is_in_scope, scope_of, key_values}
use Rattle.pgs_violation.specs.declared.violation.Violation.{Violation}
use Rattle.pgs_violation.specs.declared.violation.Violation.TheVariants.{UntypedNode, UntypedEdge, Mandatory, Singleton, Exclusive, CountOutside}
use Rattle.pgs_violation.specs.Violations.{mandatory_violation, singleton_violation, exclusive_violation, sharing, count_outside}
use Rattle.pgs_violation.specs.Standing.{key_of}
use Rattle.pgs_scratch.specs.declared.key_row.KeyRow.{KeyRow}
use Rattle.pgs_scratch.specs.Rows.{row_of}
use Rattle.pgs_scratch.specs.Untyped.{untyped_node_at, untyped_edge_at}

-- the key of a number: keys are numbered from 1
abbrev pub key_numbered : List Key → ℕ → Option Key
key_numbered keys zero = None
key_numbered keys (suc place) = slice_get keys place

-- the row of an element, where the key asks for it and the element is in its scope
abbrev pub row_in_scope : Resolved → Graph → Bool → Elem → Key → Option KeyRow
row_in_scope resolved g asked elem key =
    if asked && is_in_scope resolved g key elem then Some (row_of (key_values resolved g key) elem) else None

-- 27, 28, 29 and 39 for an element, where the key asks for it and the element is in its scope
abbrev pub missing_at : Resolved → Graph → ℕ → Elem → Key → Option Violation
missing_at resolved g number elem key =
    if key.qualifiers.mandatory && is_in_scope resolved g key elem
    then mandatory_violation number (key_values resolved g key) elem else None

abbrev pub several_at : Resolved → Graph → ℕ → Elem → Key → Option Violation
several_at resolved g number elem key =
    if key.qualifiers.singleton && is_in_scope resolved g key elem
    then singleton_violation number (key_values resolved g key) elem else None

abbrev pub shared_at : Resolved → Graph → ℕ → Elem → Key → Option Violation
shared_at resolved g number elem key =
    if key.qualifiers.exclusive && is_in_scope resolved g key elem
    then exclusive_violation number (scope_of resolved g key) (key_values resolved g key) elem else None

abbrev pub count_at : Resolved → Graph → ℕ → Elem → Key → Option Violation
count_at resolved g number elem key =
    option_and_then (λ (bounds : ℕ × ℕ). if is_in_scope resolved g key elem
    then count_outside number bounds elem (key_values resolved g key elem) else None) key.qualifiers.count

-- of a key, the violation of the same number and least element as a violation of it
abbrev pub key_violation_at : Resolved → Graph → Violation → Key → Option Violation
key_violation_at resolved g (UntypedNode node) key = None
key_violation_at resolved g (UntypedEdge edge) key = None
key_violation_at resolved g (Mandatory number elem) key = missing_at resolved g number elem key
key_violation_at resolved g (Singleton number elem first second) key = several_at resolved g number elem key
key_violation_at resolved g (Exclusive number first second tuple) key = shared_at resolved g number first key
key_violation_at resolved g (CountOutside number elem count least most) key = count_at resolved g number elem key

-- the violation of the same key, number and least element
abbrev pub violation_at : Resolved → Graph → Violation → Option Violation
violation_at resolved g (UntypedNode node) = if resolved.guard.strict then untyped_node_at resolved g node else None
violation_at resolved g (UntypedEdge edge) = if resolved.guard.strict then untyped_edge_at resolved g edge else None
violation_at resolved g v = option_and_then (key_violation_at resolved g v) (key_numbered resolved.guard.keys (key_of v))

-- the violation that an element makes with another one, where this is later and shares a key value with it
abbrev pub sharing_if_later : ℕ → (Elem → List (List Part)) → Elem → Elem → Option Violation
sharing_if_later number values elem other = if is_lt (elem_cmp elem other) then sharing number values elem other else None
