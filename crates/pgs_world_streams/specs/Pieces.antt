-- What a writer does with a piece.
use Rattle.std.specs.Prelude.{◌≡◌, ◌⊎◌, ℕ, ◌+◌, ◌-◌, ◌^◌, ◌<◌, drop, true, false, List, ◌++◌, length, Option, Result, Ok, Err}
use Rattle.std.specs.Io.KnownBytes.{Appends}
use Rattle.std.specs.IoError.{error_kind}
use Rattle.std.specs.declared.io.Error.{Error}
use Rattle.std.specs.declared.io.ErrorKind.TheVariants.{WriteZero}
use Rattle.pgs_world_streams.specs.Given.{PlacedCall, PlainCall, BareCall}
use Rattle.pgs_world_streams.specs.Tries.{WriteIsTried}
use Rattle.pgs_world_streams.specs.Whole.{HasWritten, HasFailedToWrite, IsFailure}

-- known bytes grow by some front of the piece
pub record AppendsFront (old new : Option (List ℕ)) (piece : List ℕ) : Type 0 where
  pub front : List ℕ
  pub back : List ℕ
  pub parts : piece ≡ front ++ back
  pub appends : Appends old new front

-- known bytes grow by the whole piece; after a fault by some front of it
abbrev pub HoldsPiece : {W A F : Type 0} → (W → Option (List ℕ)) → W → List ℕ → Result A F → W → Type 0
HoldsPiece contents old piece (Ok _) new = Appends (contents old) (contents new) piece
HoldsPiece contents old piece (Err _) new = AppendsFront (contents old) (contents new) piece

-- writes that have no place
abbrev pub placeless : {W : Type 0} → PlainCall W → PlacedCall W
placeless writes old at bytes answer new = writes old bytes answer new

-- The whole piece was written, and then flushed. Else all of it was written and the flush failed, or a front of it, and the next write
-- failed.
abbrev pub PieceIs : {W A F : Type 0} → PlainCall W → BareCall W → W → List ℕ → Result A F → W → Type 0
PieceIs writes flushes old piece (Ok _) new =
    (mid : _) × HasWritten (placeless writes) old 0 piece (length piece) mid × flushes mid true new
PieceIs writes flushes old piece (Err _) new =
    ((mid : _) × HasWritten (placeless writes) old 0 piece (length piece) mid × flushes mid false new)
    ⊎ HasFailedToWrite (placeless writes) old 0 piece new

-- the error of a write that failed: the one that the write gave, and one of its own kind where the write took no byte
abbrev pub IsErrorOf : Result ℕ Error → Error → Type 0
IsErrorOf (Ok count) error = error_kind error ≡ WriteZero
IsErrorOf (Err given) error = error ≡ given

-- A front of the piece was written, and the write of the rest failed with this error.
pub record FailsToWrite {W : Type 0} (writes : PlainCall W) (old : W) (piece : List ℕ) (error : Error) (new : W) : Type 0 where
  pub done : ℕ
  pub before : W
  pub front : HasWritten (placeless writes) old 0 piece done before
  pub left : done < length piece
  pub answer : Result ℕ Error
  pub tried : WriteIsTried (placeless writes) before (0 + done) (drop done piece) answer new
  pub fails : IsFailure answer
  pub is : IsErrorOf answer error

-- All of the piece was written and the flush failed, which gave the error; or the write of some of it failed with it.
abbrev pub FailsWith : {W : Type 0} → PlainCall W → BareCall W → W → List ℕ → Error → W → Type 0
FailsWith writes flushes old piece error new =
    ((mid : _) × HasWritten (placeless writes) old 0 piece (length piece) mid × flushes mid false new)
    ⊎ FailsToWrite writes old piece error new

-- the same of a put, which fails with nothing written where no more puts or no more moments can be counted
abbrev pub PutIs : {W A F : Type 0} → PlainCall W → BareCall W → (puts moment : ℕ) → W → List ℕ → Result A F → W → Type 0
PutIs {F = F} writes flushes puts moment old piece (Ok done) new = PieceIs {F = F} writes flushes old piece (Ok done) new
PutIs {A = A} writes flushes puts moment old piece (Err fault) new =
    (((puts ≡ 2 ^ 64 - 1) ⊎ (moment ≡ 2 ^ 64 - 1)) × (new ≡ old)) ⊎ PieceIs {A = A} writes flushes old piece (Err fault) new
