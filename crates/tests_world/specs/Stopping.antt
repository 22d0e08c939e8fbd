-- A file and an output in memory that tell what a stop may leave: each change is made whole, at once, and the states before it are kept.
use Rattle.std.specs.Prelude.{◌≡◌, ◌⊎◌, ℕ, ◌+◌, ◌≤◌, Bool, true, false, List, [], ◌∷◌, ◌++◌, length, take, drop, Option, Some, Result, Ok, Err, IfOk}
use Rattle.std.specs.declared.io.Error.{Error}
use Rattle.pgs_world.specs.Disk.{written_over}
use Rattle.pgs_world_streams.specs.Past.{Past}
use Rattle.tests_world.specs.declared.stopping.Was.{Was}
use Rattle.tests_world.specs.declared.stopping.Kept.{Kept}

-- From the moment of its last change on, which is behind the call that made it, and in that call, a stop leaves these bytes; in that call
-- and before it, what stood before.
abbrev pub left_by : ℕ → List ℕ → (ℕ → List ℕ → Type 0) → ℕ → List ℕ → Type 0
left_by until bytes before t c = ((until ≤ t + 1) × (c ≡ bytes)) ⊎ ((t + 1 ≤ until) × before t c)

-- the same of the states before, the newest first
abbrev pub left_in : List Was → ℕ → List ℕ → Type 0
left_in [] t c = ⊥
left_in (was ∷ past) t c = ((was.until ≤ t + 1) × (c ≡ was.bytes.items)) ⊎ ((t + 1 ≤ was.until) × left_in past t c)

abbrev pub past_by : List ℕ → ℕ → List Was → Past
past_by bytes until past =
    record { may_leave = λ c. c ≡ bytes; left = left_by until bytes (left_in past); until = until }

abbrev pub past_of : Kept → Past
past_of kept = past_by kept.bytes.items kept.until kept.past.items

-- a call changed nothing
pub record IsStill (old new : Kept) : Type 0 where
  pub bytes : new.bytes.items ≡ old.bytes.items
  pub until : new.until ≡ old.until
  pub past : new.past.items ≡ old.past.items

-- a call that began at this moment made the bytes these
pub record IsChanged (t : ℕ) (bytes : List ℕ) (old new : Kept) : Type 0 where
  pub are : new.bytes.items ≡ bytes
  pub until : new.until ≡ t + 1
  pub was : Was
  pub past : new.past.items ≡ was ∷ old.past.items
  pub was_until : was.until ≡ old.until
  pub was_bytes : was.bytes.items ≡ old.bytes.items

-- what each call on it answers, as a file
abbrev pub LengthOf : ℕ → Kept → Result ℕ Error → Kept → Type 0
LengthOf t old answer new = IsStill old new × IfOk answer (λ count. count ≡ length old.bytes.items)

abbrev pub ReadOf : ℕ → Kept → ℕ → List ℕ → Result ℕ Error → Kept → Type 0
ReadOf t old at buf answer new =
    IsStill old new × IfOk answer (λ count. take count buf ≡ take (length (take count buf)) (drop at old.bytes.items))

abbrev pub WriteOf : ℕ → Kept → ℕ → List ℕ → Result ℕ Error → Kept → Type 0
WriteOf t old at piece (Ok count) new =
    (count ≡ length piece) × (at ≤ length old.bytes.items) × IsChanged t (written_over old.bytes.items at piece) old new
WriteOf t old at piece (Err error) new = IsStill old new

abbrev pub CutOf : ℕ → Kept → ℕ → Bool → Kept → Type 0
CutOf t old len true new = (len ≤ length old.bytes.items) × IsChanged t (take len old.bytes.items) old new
CutOf t old len false new = IsStill old new

abbrev pub SyncOf : ℕ → Kept → Bool → Kept → Type 0
SyncOf t old succeeds new = IsStill old new

-- as the file of a name, which is always found, and open to be written
abbrev pub NameOf : ℕ → Kept → ℕ → Bool → Kept → Type 0
NameOf t old len succeeds new = IsStill old new

abbrev pub ReopenOf : ℕ → Kept → Kept → Type 0
ReopenOf t old new = IsStill old new

-- and as an output
abbrev pub AddOf : ℕ → Kept → List ℕ → Result ℕ Error → Kept → Type 0
AddOf t old piece (Ok count) new = (count ≡ length piece) × IsChanged t (old.bytes.items ++ piece) old new
AddOf t old piece (Err error) new = IsStill old new

abbrev pub told_of : Kept → Option (List ℕ)
told_of kept = Some kept.bytes.items
