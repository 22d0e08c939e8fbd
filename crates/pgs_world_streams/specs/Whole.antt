-- All bytes of a range, read or written call by call, each call made again where it was interrupted.
use Rattle.std.specs.Prelude.{◌≡◌, ℕ, ◌+◌, ◌<◌, ◌≤◌, List, [], ◌++◌, length, take, drop, Result, Ok, Err, ⊤}
use Rattle.std.specs.declared.io.Error.{Error}
use Rattle.pgs_world_streams.specs.Given.{PlacedCall}
use Rattle.pgs_world_streams.specs.Tries.{ReadIsTried, WriteIsTried}

-- From `start`, reads from this place on gave these bytes, in order, each at least one, and left a handle so.
pub data HasRead {H : Type 0} (gives : PlacedCall H) (start : H) (at : ℕ) : List ℕ → H → Type 0 where
  read_none : HasRead gives start at [] start
  read_some : {bytes buf : List ℕ} {count : ℕ} {before after : H} → HasRead gives start at bytes before
      → ReadIsTried gives before (at + length bytes) buf (Ok count) after → 1 ≤ count → HasRead gives start at (bytes ++ take count buf) after

-- From `start`, writes of these bytes from this place on took the first so many, in order, each at least one, and left a handle so.
pub data HasWritten {H : Type 0} (gives : PlacedCall H) (start : H) (at : ℕ) (bytes : List ℕ) : ℕ → H → Type 0 where
  wrote_none : HasWritten gives start at bytes 0 start
  wrote_some : {done count : ℕ} {before after : H} → HasWritten gives start at bytes done before
      → WriteIsTried gives before (at + done) (drop done bytes) (Ok count) after → 1 ≤ count → HasWritten gives start at bytes (done + count) after

-- a call gave or took no byte
abbrev pub IsFailure : Result ℕ Error → Type 0
IsFailure (Ok count) = count ≡ 0
IsFailure (Err _) = ⊤

-- A front of the buffer was read, and the read of its rest failed.
pub record HasFailedToRead {H : Type 0} (gives : PlacedCall H) (start : H) (at : ℕ) (buf : List ℕ) (new : H) : Type 0 where
  pub done : ℕ
  pub before : H
  pub front : HasRead gives start at (take done buf) before
  pub left : done < length buf
  pub answer : Result ℕ Error
  pub tried : ReadIsTried gives before (at + done) (drop done buf) answer new
  pub fails : IsFailure answer

-- A front of the bytes was written, and the write of the rest failed.
pub record HasFailedToWrite {H : Type 0} (gives : PlacedCall H) (start : H) (at : ℕ) (bytes : List ℕ) (new : H) : Type 0 where
  pub done : ℕ
  pub before : H
  pub front : HasWritten gives start at bytes done before
  pub left : done < length bytes
  pub answer : Result ℕ Error
  pub tried : WriteIsTried gives before (at + done) (drop done bytes) answer new
  pub fails : IsFailure answer
