-- What an open file with a name that tells it says of the bytes that it holds, and of what a stop may leave of them.
use Rattle.std.specs.Prelude.{◌≡◌, ℕ, ◌+◌, ◌≤◌, Bool, List, length, take, drop, Result}
use Rattle.std.specs.declared.io.Error.{Error}
use Rattle.pgs_world_streams.specs.Given.{PlacedCall, BareCall}
use Rattle.pgs_world_streams.specs.Past.{Past, GoesOn, IsSame}
use Rattle.pgs_world_files.specs.Contents.{IsOver}
use Rattle.pgs_world_files.specs.Stops.{HasStops}

-- Its answers are about its bytes. A question for the name leaves these, and so does opening it to be written too.
pub record IsNamedOver {F : Type 0} (bytes : F → List ℕ) (lengths : F → Result ℕ Error → F → Type 0) (reads writes : PlacedCall F)
    (cuts : F → ℕ → Bool → F → Type 0) (syncs : BareCall F) (names : F → ℕ → Bool → F → Type 0) (reopens : F → F → Type 0) : Type 0 where
  pub over : IsOver bytes lengths reads writes cuts syncs
  pub name_keeps : (old new : F) (len : ℕ) (succeeds : Bool) → names old len succeeds new → bytes new ≡ bytes old
  pub reopen_keeps : (old new : F) → reopens old new → bytes new ≡ bytes old

-- Each call begins at a moment, and not before one at which an earlier call began.
pub record HasNamedStops {F : Type 0} (contents : F → List ℕ) (past : F → Past) (lengths : ℕ → F → Result ℕ Error → F → Type 0)
    (reads writes : ℕ → PlacedCall F) (cuts : ℕ → F → ℕ → Bool → F → Type 0) (syncs : ℕ → BareCall F) (names : ℕ → F → ℕ → Bool → F → Type 0)
    (reopens : ℕ → F → F → Type 0) : Type 0 where
  pub over : (t : ℕ) → IsNamedOver contents (lengths t) (reads t) (writes t) (cuts t) (syncs t) (names t) (reopens t)
  pub handle : HasStops contents past lengths reads writes cuts syncs
  -- a question for the name leaves nothing new, at any moment; nor does opening it to be written too
  pub name : (t : ℕ) (old new : F) (len : ℕ) (succeeds : Bool) → (past old).until ≤ t + 1 → names t old len succeeds new
      → GoesOn IsSame t (past old) (past new)
  pub name_leaves : (t : ℕ) (old new : F) (len : ℕ) (succeeds : Bool) (c : List ℕ) → names t old len succeeds new → (past new).may_leave c
      → (past old).may_leave c
  pub reopen : (t : ℕ) (old new : F) → (past old).until ≤ t + 1 → reopens t old new → GoesOn IsSame t (past old) (past new)
  -- a write of the one byte that stands at its place leaves nothing new, whatever it answers
  pub again : (t : ℕ) (old new : F) (at : ℕ) (byte : List ℕ) (answer : Result ℕ Error) → (past old).until ≤ t + 1 → length byte ≡ 1
      → byte ≡ take 1 (drop at (contents old)) → writes t old at byte answer new → GoesOn IsSame t (past old) (past new)
