-- The rows of an index: the key values of elements under keys, which are numbered from 1; and what changes make of them.
use Rattle.std.specs.Prelude.{◌≡◌, ℕ, zero, suc, Bool, true, false, List, [], ◌∷◌, Option, slice_get}
use Rattle.std.specs.Option.{option_map_or}
use Rattle.std.specs.List.{list_any}
use Rattle.std.specs.Map.{lookup}
use Rattle.std.specs.BTreeMap.{is_at}
use Rattle.pgs_base.specs.declared.element.Elem.{Elem}
use Rattle.pgs_base.specs.declared.part.Part.{Part}
use Rattle.pgs_base.specs.Order.{tuple_cmp}
use Rattle.pgs_graph.specs.Changed.{entry_changed}
use Rattle.pgs_keyindex.specs.declared.change.KeyChange.{KeyChange}
use Rattle.pgs_keyindex.specs.declared.member.Member.{Member}
use Rattle.pgs_keyindex.specs.Members.{member_of, member_cmp}

-- rows by ascending key and element: each has the key values of the element
abbrev pub KeyRows : Type 0
KeyRows = List (Member × List (List Part))

-- the key values of an element under the key of a number; none where it has no row
abbrev pub values_at : KeyRows → ℕ → Elem → Option (List (List Part))
values_at rows key elem = lookup (is_at (member_cmp (member_of key elem))) rows

-- whether a tuple is among tuples
abbrev pub has_tuple : List Part → List (List Part) → Bool
has_tuple tuple tuples = list_any (is_at (tuple_cmp tuple)) tuples

-- whether an element has a key value
abbrev pub has_value : KeyRows → ℕ → Elem → List Part → Bool
has_value rows key elem tuple = option_map_or (has_tuple tuple) (values_at rows key elem) false

-- whether the key of a number, from 1, is one of those that are exclusive
abbrev pub is_exclusive : List Bool → ℕ → Bool
is_exclusive exclusive zero = false
is_exclusive exclusive (suc place) = option_map_or (λ asked. asked) (slice_get exclusive place) false

-- no two elements share a value of an exclusive key
abbrev pub IsOwned : List Bool → KeyRows → Type 0
IsOwned exclusive rows =
    (key : ℕ) (tuple : List Part) (first second : Elem) → is_exclusive exclusive key ≡ true → has_value rows key first tuple ≡ true →
    has_value rows key second tuple ≡ true → first ≡ second

-- rows after a change: the row of the change's key and element set, or taken out
abbrev pub row_changed : KeyRows → KeyChange → KeyRows
row_changed rows change = entry_changed member_cmp rows (member_of change.key change.elem) change.values

-- rows after changes, one after another
abbrev pub rows_changed : KeyRows → List KeyChange → KeyRows
rows_changed rows [] = rows
rows_changed rows (change ∷ changes) = rows_changed (row_changed rows change) changes
