-- Numbers that are reached from a start, in the order in which they are, with a flag for each number that some link led to.
use Rattle.std.specs.Prelude.{◌≡◌, ℕ, suc, ◌==◌, ◌<◌, ◌≤◌, Bool, true, not, List, [], ◌∷◌, ◌++◌, length, slice_index_or, if◌then◌else◌}
use Rattle.std.specs.List.{list_any, count_by}
use Rattle.pgs_resolve_order.specs.Links.{leads_in, is_set}

-- whether a number is among numbers
abbrev pub is_among : List ℕ → ℕ → Bool
is_among numbers number = list_any (λ other. other == number) numbers

-- whether a number has a flag that isn't set
abbrev pub is_unseen : List Bool → ℕ → Bool
is_unseen seen number = not (slice_index_or seen number true)

-- the numbers that are reached, and those that a link leads to
abbrev pub with_reached : List Bool → List ℕ → ℕ → List ℕ
with_reached seen reached number = if is_unseen seen number then reached ++ number ∷ [] else reached

-- whether numbers are reached from a start, each in at most as many steps as there are numbers before it, and those that
-- are seen are among them
pub record AreReached (rows : List (List ℕ)) (start : ℕ) (seen : List Bool) (reached : List ℕ) : Type 0 where
  pub len : length seen ≡ length rows
  pub begun : 0 < length reached
  pub first : slice_index_or reached 0 0 ≡ start
  pub few : length reached ≤ suc (count_by (λ flag. flag) seen)
  pub led : (place : ℕ) → 0 < place → place < length reached → leads_in rows place start (slice_index_or reached place 0) ≡ true
  pub seen_led : (number : ℕ) → is_set seen number ≡ true → leads_in rows (length rows) start number ≡ true
  pub seen_among : (number : ℕ) → is_set seen number ≡ true → is_among reached number ≡ true

-- whether all of some numbers that have flags are seen
abbrev pub AreSeen : List Bool → List ℕ → Type 0
AreSeen seen numbers = (number : ℕ) → number < length seen → is_among numbers number ≡ true → is_set seen number ≡ true

-- whether what is seen stays seen
abbrev pub StaySeen : List Bool → List Bool → Type 0
StaySeen old new = (number : ℕ) → is_set old number ≡ true → is_set new number ≡ true

-- whether numbers stay at their places
pub record StayReached (old new : List ℕ) : Type 0 where
  pub longer : length old ≤ length new
  pub kept : (place : ℕ) → place < length old → slice_index_or new place 0 ≡ slice_index_or old place 0
