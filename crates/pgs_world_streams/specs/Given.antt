-- What calls were given: each answer is a fact that only the call itself can show.
use Rattle.std.specs.Prelude.{◌≡◌, ℕ, Bool, List, length, Option, Some, None, Result, Ok, Err}
use Rattle.std.specs.declared.io.Error.{Error}

-- One call with some bytes at a place: the handle before, the place, the bytes, the answer, and the handle after. At a
-- read the bytes are the buffer after it.
abbrev pub PlacedCall : Type 0 → Type 1
PlacedCall H = H → ℕ → List ℕ → Result ℕ Error → H → Type 0

-- the same of a call that has no place
abbrev pub PlainCall : Type 0 → Type 1
PlainCall H = H → List ℕ → Result ℕ Error → H → Type 0

-- One call that answers nothing: what it was called on before, whether it succeeded, and that after.
abbrev pub BareCall : Type 0 → Type 1
BareCall H = H → Bool → H → Type 0

-- one read of a reader gave this answer; a fault is one that the reader gave
abbrev pub ReadsOnce : {R F : Type 0} → PlainCall R → R → List ℕ → Result ℕ F → R → Type 0
ReadsOnce gives old buf (Ok count) new = gives old buf (Ok count) new
ReadsOnce gives old buf (Err _) new = (error : Error) × gives old buf (Err error) new

-- one read of a reader asked for so many bytes, and gave so many, or failed
abbrev pub ReadMade : {R : Type 0} → PlainCall R → R → (asked : ℕ) → Option ℕ → R → Type 0
ReadMade gives old asked (Some count) new = (buf : List ℕ) × (length buf ≡ asked) × gives old buf (Ok count) new
ReadMade gives old asked None new = (buf : List ℕ) × (error : Error) × (length buf ≡ asked) × gives old buf (Err error) new
