-- What is written again after a sync that failed.
use Rattle.std.specs.Prelude.{◌≡◌, ◌≢◌, ℕ, ◌+◌, ◌*◌, List, length, Result, Ok, Err, ⊤}
use Rattle.std.specs.Int.{div_ceil}
use Rattle.std.specs.declared.io.Error.{Error}
use Rattle.pgs_world_streams.specs.Given.{PlacedCall}

-- not one byte was read
abbrev pub IsNoByte : Result ℕ Error → Type 0
IsNoByte (Ok count) = count ≢ 1
IsNoByte (Err _) = ⊤

-- The byte at a place was read, and then written there. One that couldn't be read wasn't.
pub data IsByteRewritten {F : Type 0} (reads writes : PlacedCall F) (old : F) (at : ℕ) : F → Type 0 where
  not_read : {buf : List ℕ} {answer : Result ℕ Error} {new : F} → reads old at buf answer new → IsNoByte answer
      → IsByteRewritten reads writes old at new
  rewritten : {byte : List ℕ} {answer : Result ℕ Error} {mid new : F} → length byte ≡ 1 → reads old at byte (Ok 1) mid
      → writes mid at byte answer new → IsByteRewritten reads writes old at new

-- from `start`, the first byte of each of so many blocks of 512 bytes was, in order
pub data HasRewritten {F : Type 0} (reads writes : PlacedCall F) (start : F) : ℕ → F → Type 0 where
  no_block : HasRewritten reads writes start 0 start
  one_more : {blocks : ℕ} {before after : F} → HasRewritten reads writes start blocks before
      → IsByteRewritten reads writes before (blocks * 512) after → HasRewritten reads writes start (blocks + 1) after

-- the length was asked, and each block that begins below it was gone through
abbrev pub BlocksAreRewritten : {F : Type 0} → PlacedCall F → PlacedCall F → F → Result ℕ Error → F → Type 0
BlocksAreRewritten reads writes asked (Ok len) new = HasRewritten reads writes asked (div_ceil len 512) new
BlocksAreRewritten reads writes asked (Err _) new = new ≡ asked

-- The file that a failed sync left stayed as it was, or was opened to be written; and from it each block was gone through once.
pub record IsRewritten {F : Type 0} (reopens : F → F → Type 0) (lengths : F → Result ℕ Error → F → Type 0) (reads writes : PlacedCall F)
    (old new : F) : Type 0 where
  pub opened : F
  pub reopened : reopens old opened
  pub answer : Result ℕ Error
  pub asked : F
  pub length : lengths opened answer asked
  pub blocks : BlocksAreRewritten reads writes asked answer new
