-- What the violations of a graph say: when each of them stands in the list, in words.
use Rattle.std.specs.Prelude.{◌≡◌, ◌↔◌, ◌⊎◌, ℕ, ◌+◌, ◌<◌, true, false, List, [], Some, Contains, length, slice_get}
use Rattle.std.specs.declared.cmp.Ordering.TheVariants.{Less}
use Rattle.pgs_base.specs.declared.element.NodeId.{NodeId}
use Rattle.pgs_base.specs.declared.element.EdgeId.{EdgeId}
use Rattle.pgs_base.specs.declared.element.Elem.{Elem}
use Rattle.pgs_base.specs.declared.part.Part.{Part}
use Rattle.pgs_base.specs.declared.row.NodeRow.{NodeRow}
use Rattle.pgs_base.specs.declared.row.EdgeRow.{EdgeRow}
use Rattle.pgs_base.specs.Graph.{Graph}
use Rattle.pgs_base.specs.Order.{ascends, elem_cmp, tuple_cmp}
use Rattle.pgs_syntax.specs.declared.key.Key.{Key}
use Rattle.pgs_syntax.specs.declared.resolved.Resolved.{Resolved}
use Rattle.pgs_syntax.specs.KeyValues.{scope_of, key_values}
use Rattle.pgs_syntax.specs.Least.{IsLeast}
use Rattle.pgs_syntax.specs.Typed.{is_typed_node, is_typed_edge}

-- 25: the guard is strict, and the node is there and isn't typed; 26: the same of an edge
abbrev pub IsUntypedNode : Resolved → Graph → NodeId → Type 0
IsUntypedNode resolved g node = (row : NodeRow) × (resolved.guard.strict ≡ true) × Contains g.nodes (node, row)
    × (is_typed_node resolved row ≡ false)

abbrev pub IsUntypedEdge : Resolved → Graph → EdgeId → Type 0
IsUntypedEdge resolved g edge = (row : EdgeRow) × (resolved.guard.strict ≡ true) × Contains g.edges (edge, row)
    × (is_typed_edge resolved g row ≡ false)

-- the key of a number: keys are numbered from 1
abbrev pub IsKeyOf : Resolved → ℕ → Key → Type 0
IsKeyOf resolved number key = (place : ℕ) × (number ≡ place + 1) × (slice_get resolved.guard.keys place ≡ Some key)

-- 27: the element of a mandatory key's scope has no key value
abbrev pub LacksValue : Resolved → Graph → ℕ → Elem → Type 0
LacksValue resolved g number elem = (key : Key) × IsKeyOf resolved number key × (key.qualifiers.mandatory ≡ true)
    × Contains (scope_of resolved g key) elem × (key_values resolved g key elem ≡ [])

-- a tuple is a key value of an element, and comes after another tuple
abbrev pub IsLaterValue : Resolved → Graph → Key → Elem → List Part → List Part → Type 0
IsLaterValue resolved g key elem first tuple = Contains (key_values resolved g key elem) tuple × (tuple_cmp first tuple ≡ Less)

-- 28: the two tuples are the two least key values of the element of a singleton key's scope: the least, and the least after it
abbrev pub HasTwoLeast : Resolved → Graph → ℕ → Elem → List Part → List Part → Type 0
HasTwoLeast resolved g number elem first second = (key : Key) × IsKeyOf resolved number key × (key.qualifiers.singleton ≡ true)
    × Contains (scope_of resolved g key) elem × IsLeast tuple_cmp (Contains (key_values resolved g key elem)) first
    × IsLeast tuple_cmp (IsLaterValue resolved g key elem first) second

-- two elements share a key value
abbrev pub IsShared : Resolved → Graph → Key → Elem → Elem → List Part → Type 0
IsShared resolved g key first second tuple =
    Contains (key_values resolved g key first) tuple × Contains (key_values resolved g key second) tuple

-- an element of the scope comes after another one and shares some key value with it
abbrev pub IsLaterSharer : Resolved → Graph → Key → Elem → Elem → Type 0
IsLaterSharer resolved g key first second =
    Contains (scope_of resolved g key) second × (elem_cmp first second ≡ Less)
    × ((tuple : List Part) × IsShared resolved g key first second tuple)

-- 29: the first element is in an exclusive key's scope, the second is the least later one that shares a key value with it, and
-- the tuple is the least that the two share
abbrev pub SharesLeast : Resolved → Graph → ℕ → Elem → Elem → List Part → Type 0
SharesLeast resolved g number first second tuple = (key : Key) × IsKeyOf resolved number key × (key.qualifiers.exclusive ≡ true)
    × Contains (scope_of resolved g key) first × IsLeast elem_cmp (IsLaterSharer resolved g key first) second
    × IsLeast tuple_cmp (IsShared resolved g key first second) tuple

-- so many tuples are such: there is a list of them in which each stands once
abbrev pub AreSoMany : (List Part → Type 0) → ℕ → Type 0
AreSoMany IsSuch count = (tuples : List (List Part)) × (ascends tuple_cmp tuples ≡ true)
    × ((tuple : List Part) → Contains tuples tuple ↔ IsSuch tuple) × (length tuples ≡ count)

-- 39: the element is in the scope of a key that counts, and so many different tuples are its key values, which are fewer than the
-- key's first number or more than its second
abbrev pub HasCountOutside : Resolved → Graph → ℕ → Elem → ℕ → ℕ → ℕ → Type 0
HasCountOutside resolved g number elem count least most = (key : Key) × IsKeyOf resolved number key
    × (key.qualifiers.count ≡ Some (least, most)) × Contains (scope_of resolved g key) elem
    × AreSoMany (Contains (key_values resolved g key elem)) count × ((count < least) ⊎ (most < count))
