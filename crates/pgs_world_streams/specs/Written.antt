-- What a writer that tells it says of what a stop may leave of all that was written.
use Rattle.std.specs.Prelude.{◌≡◌, ℕ, ◌+◌, ◌≤◌, Bool, List, [], ◌++◌, take, Option, Result, Ok, Err}
use Rattle.std.specs.Option.{unwrap_or}
use Rattle.std.specs.declared.io.Error.{Error}
use Rattle.pgs_world_streams.specs.Given.{PlainCall, BareCall}
use Rattle.pgs_world_streams.specs.Past.{Past, IsPast, GoesOn, IsSame}

-- what the writer holds, where it tells
abbrev pub held : Option (List ℕ) → List ℕ
held contents = unwrap_or contents []

-- some front of the piece stands behind what was there
pub record IsLonger (piece : List ℕ) (old new : List ℕ) : Type 0 where
  pub front : List ℕ
  pub back : List ℕ
  pub parts : piece ≡ front ++ back
  pub added : new ≡ old ++ front

pub record HasWriterStops {W : Type 0} (contents : W → Option (List ℕ)) (past : W → Past) (writes : ℕ → PlainCall W) (flushes : ℕ → BareCall W) : Type 0 where
  pub is_past : (writer : W) → IsPast (past writer)
  -- between calls a stop leaves all that was written
  pub shown : (writer : W) → (past writer).may_leave (held (contents writer))
  pub all : (writer : W) (c : List ℕ) → (past writer).may_leave c → c ≡ held (contents writer)
  -- a write adds what it took, and a stop in it leaves some front of the piece
  pub write : (t : ℕ) (old new : W) (piece : List ℕ) (answer : Result ℕ Error) → (past old).until ≤ t + 1 → writes t old piece answer new
      → GoesOn (IsLonger piece) t (past old) (past new)
  pub takes : (t : ℕ) (old new : W) (piece : List ℕ) (count : ℕ) → writes t old piece (Ok count) new
      → held (contents new) ≡ held (contents old) ++ take count piece
  pub write_fails : (t : ℕ) (old new : W) (piece : List ℕ) (error : Error) → writes t old piece (Err error) new
      → held (contents new) ≡ held (contents old)
  -- a flush changes nothing of it
  pub flush : (t : ℕ) (old new : W) (succeeds : Bool) → (past old).until ≤ t + 1 → flushes t old succeeds new
      → GoesOn IsSame t (past old) (past new)
