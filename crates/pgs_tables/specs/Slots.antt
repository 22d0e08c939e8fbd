-- What a table of numbered rows is seen as: the rows that are there by ascending number, the numbers that have a slot, and how it hashes.
use Rattle.std.specs.Prelude.{◌≡◌, ℕ, Bool, true, false, cond, List, length, [], ◌∷◌, ◌++◌, Option, Some, None, ◌<◌, get_or, refl}
use Rattle.std.specs.Coded.{Coded, code_by, coded_list, coded×}
use Rattle.std.specs.declared.cmp.Ordering.{Ordering}
use Rattle.std.specs.Ordering.{is_lt}
use Rattle.std.specs.List.{list_any, IsDistinct}
use Rattle.std.specs.Map.{keys_of, lookup, set_value}
use Rattle.indexmap.specs.Layout.{set_value_at}
use Rattle.std.specs.BTreeMap.{is_at, insert_entry}
use Rattle.pgs_base.specs.declared.seed.Seed.{Seed}
use Rattle.pgs_base.specs.contracts.seed.Seed as seeds
use Rattle.pgs_base_slots.specs.Slots.{left_at}

pub record Slots (K V : Type 0) : Type 0 where
  pub rows : List (K × V)
  pub numbers : List K
  -- numbers are hashed by it
  pub seed : Seed

abbrev pub code_slots : {K V : Type 0} → Coded K → Coded V → Coded (Slots K V)
code_slots {K} {V} k v =
    code_by (List (K × V) × (List K × Seed)) (coded× (coded_list (coded× k v)) (coded× (coded_list k) seeds.the_row.coded))
    (λ s. (s.rows, (s.numbers, s.seed))) (λ p. record { rows = p.0; numbers = p.1.0; seed = p.1.1 }) (λ _. refl)

-- whether a number has a slot
abbrev pub has_slot : {K V : Type 0} → (K → K → Ordering) → Slots K V → K → Bool
has_slot cmp slots id = list_any (is_at (cmp id)) slots.numbers

-- whether a number has a row
abbrev pub has_row : {K V : Type 0} → (K → K → Ordering) → Slots K V → K → Bool
has_row cmp slots id = list_any (is_at (cmp id)) (keys_of slots.rows)

-- numbers with one more, last, unless it is among them
abbrev pub with_number : {K : Type 0} → (K → K → Ordering) → List K → K → List K
with_number cmp numbers id = cond (list_any (is_at (cmp id)) numbers) numbers (numbers ++ id ∷ [])

-- entries by ascending key; of several with one key, the first
abbrev pub by_key : {K V : Type 0} → (K → K → Ordering) → List (K × V) → List (K × V)
by_key cmp [] = []
by_key cmp (entry ∷ entries) = insert_entry cmp (by_key cmp entries) entry.0 entry.1

-- the rows of the slots that have one
abbrev pub present : {K V : Type 0} → List (K × Option V) → List (K × V)
present [] = []
present (slot ∷ slots) = left_at slot.0 slot.1 ++ present slots

-- how many rows a slot has
abbrev pub row_count : {V : Type 0} → Option V → ℕ
row_count None = 0
row_count (Some row) = 1

-- whether a number is above the greatest, or there is none
abbrev pub is_above : {K : Type 0} → (K → K → Ordering) → Option K → K → Bool
is_above cmp None id = true
is_above cmp (Some greatest) id = is_lt (cmp greatest id)

-- the greatest of numbers and one more
abbrev pub raised : {K : Type 0} → (K → K → Ordering) → Option K → K → Option K
raised cmp greatest id = cond (is_above cmp greatest id) (Some id) greatest

-- what is above the greatest is none of these numbers
abbrev pub AreBelow : {K : Type 0} → (K → K → Ordering) → Option K → List K → Type 0
AreBelow {K} cmp greatest numbers = (id : K) → is_above cmp greatest id ≡ true → list_any (is_at (cmp id)) numbers ≡ false

-- no number has two slots, so many rows are in them, and none is above the greatest
pub record AreSlots {K V : Type 0} (eq : K → K → Bool) (cmp : K → K → Ordering) (count : ℕ) (greatest : Option K) (slots : List (K × Option V)) : Type 0 where
  pub distinct : IsDistinct eq (keys_of slots)
  pub counted : count ≡ length (present slots)
  pub below : AreBelow cmp greatest (keys_of slots)

-- slots with the rows of others, and where each number that has a slot there has one
pub record AreKept {K V : Type 0} (old new : List (K × Option V)) : Type 0 where
  pub rows : present new ≡ present old
  pub numbers : (test : K → Bool) → list_any test (keys_of old) ≡ true → list_any test (keys_of new) ≡ true

-- the entry that a test finds is the one at a place
pub record IsFoundAt {K W : Type 0} (test : K → Bool) (entries : List (K × W)) (place : ℕ) : Type 0 where
  pub in_range : place < length entries
  pub found : (d : K × W) → lookup test entries ≡ Some (get_or entries place d).1
  pub sets : (new : W) → set_value_at entries place new ≡ set_value test entries new
