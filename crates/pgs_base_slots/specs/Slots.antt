-- Slots by key: each holds a row or none.
use Rattle.std.specs.Prelude.{ℕ, Bool, List, [], ◌∷◌, ◌++◌, Option, Some, None, is_some}
use Rattle.std.specs.declared.cmp.Ordering.{Ordering}
use Rattle.std.specs.List.{list_any}
use Rattle.std.specs.Map.{keys_of}
use Rattle.std.specs.BTreeMap.{is_at}

-- whether a key has a slot
abbrev pub has_slot : {K V : Type 0} → (K → K → Ordering) → List (K × Option V) → K → Bool
has_slot cmp slots key = list_any (is_at (cmp key)) (keys_of slots)

-- whether a slot holds a row
abbrev pub holds_row : {K V : Type 0} → K × Option V → Bool
holds_row slot = is_some slot.1

-- the entries that a change leaves at its key
abbrev pub left_at : {K V : Type 0} → K → Option V → List (K × V)
left_at key None = []
left_at key (Some value) = (key, value) ∷ []

-- the rows of the slots that hold one
abbrev pub present : {K V : Type 0} → List (K × Option V) → List (K × V)
present [] = []
present (slot ∷ slots) = left_at slot.0 slot.1 ++ present slots

-- how many rows a slot holds
abbrev pub row_count : {V : Type 0} → Option V → ℕ
row_count None = 0
row_count (Some row) = 1
