-- A call that is made again where it was interrupted.
use Rattle.std.specs.Prelude.{◌≡◌, ℕ, ◌+◌, ◌<◌, ◌≤◌, List, Result, Ok, Err}
use Rattle.std.specs.IoError.{error_kind}
use Rattle.std.specs.declared.io.Error.{Error}
use Rattle.std.specs.declared.io.ErrorKind.TheVariants.{Interrupted}
use Rattle.pgs_world_streams.specs.Given.{PlacedCall}

-- the call was interrupted
abbrev pub WasInterrupted : {A : Type 0} → Result A Error → Type 0
WasInterrupted (Ok _) = ⊥
WasInterrupted (Err error) = error_kind error ≡ Interrupted

-- one call: what it was made on before, the answer, and that after
abbrev pub OneCall : Type 0 → Type 1
OneCall H = H → Result ℕ Error → H → Type 0

-- from `start`, so many calls in a row were made, each was interrupted, and the last left this
pub data AreInterrupted {H : Type 0} (gives : OneCall H) (start : H) : ℕ → H → Type 0 where
  no_try : AreInterrupted gives start 0 start
  one_more : {tries : ℕ} {answer : Result ℕ Error} {before after : H} → AreInterrupted gives start tries before
      → gives before answer after → WasInterrupted answer → AreInterrupted gives start (tries + 1) after

-- The last of at most 1,000 calls gave this answer. Those before it were interrupted, and it wasn't, or no more are allowed.
pub record IsTried {H : Type 0} (tried last : OneCall H) (old : H) (answer : Result ℕ Error) (new : H) : Type 0 where
  pub tries : ℕ
  pub mid : H
  pub interrupted : AreInterrupted tried old tries mid
  pub gave : last mid answer new
  pub few : tries < 1000
  pub ends : WasInterrupted answer → 1000 ≤ tries + 1

-- the same of a write of these bytes at a place
abbrev pub WriteIsTried : {H : Type 0} → PlacedCall H → H → ℕ → List ℕ → Result ℕ Error → H → Type 0
WriteIsTried gives old at bytes answer new =
    IsTried (λ before tried after. gives before at bytes tried after) (λ before last after. gives before at bytes last after)
    old answer new

-- the same of a read at a place: the last left the buffer so, and those before it left it in any way
abbrev pub ReadIsTried : {H : Type 0} → PlacedCall H → H → ℕ → List ℕ → Result ℕ Error → H → Type 0
ReadIsTried gives old at buf answer new =
    IsTried (λ before tried after. (left : List ℕ) × gives before at left tried after) (λ before last after. gives before at buf last after)
    old answer new
