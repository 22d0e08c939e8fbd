-- What an open file that tells it says of what a stop may leave of its bytes.
use Rattle.std.specs.Prelude.{◌≡◌, ℕ, ◌+◌, ◌≤◌, Bool, true, List, length, Option, Some, None, Result, Ok}
use Rattle.std.specs.declared.io.Error.{Error}
use Rattle.pgs_world.specs.Disk.{IsTorn, IsCutShort}
use Rattle.pgs_world_streams.specs.Given.{PlacedCall, BareCall}
use Rattle.pgs_world_streams.specs.Past.{Past, IsPast, GoesOn, IsSame, empty_past}

-- Each call begins at a moment, and not before one at which an earlier call began.
pub record HasStops {H : Type 0} (contents : H → List ℕ) (past : H → Past) (lengths : ℕ → H → Result ℕ Error → H → Type 0)
    (reads writes : ℕ → PlacedCall H) (cuts : ℕ → H → ℕ → Bool → H → Type 0) (syncs : ℕ → BareCall H) : Type 0 where
  pub is_past : (file : H) → IsPast (past file)
  -- a stop may leave what a read gives
  pub shown : (file : H) → (past file).may_leave (contents file)
  -- a question for the length, a read and a sync leave nothing new
  pub asked : (t : ℕ) (old new : H) (answer : Result ℕ Error) → (past old).until ≤ t + 1 → lengths t old answer new
      → GoesOn IsSame t (past old) (past new)
  pub read : (t : ℕ) (old new : H) (at : ℕ) (buf : List ℕ) (answer : Result ℕ Error) → (past old).until ≤ t + 1 → reads t old at buf answer new
      → GoesOn IsSame t (past old) (past new)
  pub sync : (t : ℕ) (old new : H) (succeeds : Bool) → (past old).until ≤ t + 1 → syncs t old succeeds new
      → GoesOn IsSame t (past old) (past new)
  -- a write and a cut do what the disk model says, also where they fail
  pub write : (t : ℕ) (old new : H) (at : ℕ) (piece : List ℕ) (answer : Result ℕ Error) → (past old).until ≤ t + 1 → writes t old at piece answer new
      → GoesOn (IsTorn at (length piece)) t (past old) (past new)
  pub cut : (t : ℕ) (old new : H) (len : ℕ) (succeeds : Bool) → (past old).until ≤ t + 1 → cuts t old len succeeds new
      → GoesOn (IsCutShort len) t (past old) (past new)
  -- no write takes more than it was handed
  pub fits : (t : ℕ) (old new : H) (at : ℕ) (piece : List ℕ) (count : ℕ) → writes t old at piece (Ok count) new → count ≤ length piece
  -- behind a sync a stop leaves what a read gives
  pub synced : (t : ℕ) (old new : H) (c : List ℕ) → syncs t old true new → (past new).may_leave c → c ≡ contents new

-- the past of an area; without a file it is empty
abbrev pub past_in : {H : Type 0} → (H → Past) → Option H → Past
past_in past (Some file) = past file
past_in past None = empty_past
