-- What the answers of an open file say of the bytes that it holds, where it tells them.
use Rattle.std.specs.Prelude.{◌≡◌, ℕ, ◌≤◌, Bool, true, List, length, take, drop, Result, Ok, Err}
use Rattle.std.specs.declared.io.Error.{Error}
use Rattle.pgs_world.specs.Disk.{written_over}
use Rattle.pgs_world_streams.specs.Given.{PlacedCall, BareCall}

pub record IsOver {H : Type 0} (bytes : H → List ℕ) (lengths : H → Result ℕ Error → H → Type 0) (reads writes : PlacedCall H)
    (cuts : H → ℕ → Bool → H → Type 0) (syncs : BareCall H) : Type 0 where
  -- the length is that of the bytes
  pub counted : (old new : H) (count : ℕ) → lengths old (Ok count) new → count ≡ length (bytes old)
  -- what was read stands at the place
  pub read : (old new : H) (at : ℕ) (buf : List ℕ) (count : ℕ) → reads old at buf (Ok count) new
      → take count buf ≡ take (length (take count buf)) (drop at (bytes old))
  -- a front of the bytes was written over what stood at the place; after an error nothing
  pub fits : (old new : H) (at : ℕ) (piece : List ℕ) (count : ℕ) → writes old at piece (Ok count) new → count ≤ length piece
  pub written : (old new : H) (at : ℕ) (piece : List ℕ) (count : ℕ) → writes old at piece (Ok count) new → at ≤ length (bytes old)
      → bytes new ≡ written_over (bytes old) at (take count piece)
  pub write_fails : (old new : H) (at : ℕ) (piece : List ℕ) (error : Error) → writes old at piece (Err error) new → bytes new ≡ bytes old
  -- a cut leaves the front
  pub cut : (old new : H) (len : ℕ) → cuts old len true new → len ≤ length (bytes old) → bytes new ≡ take len (bytes old)
  -- the other calls leave the bytes
  pub length_keeps : (old new : H) (answer : Result ℕ Error) → lengths old answer new → bytes new ≡ bytes old
  pub read_keeps : (old new : H) (at : ℕ) (buf : List ℕ) (answer : Result ℕ Error) → reads old at buf answer new → bytes new ≡ bytes old
  pub sync_keeps : (old new : H) (succeeds : Bool) → syncs old succeeds new → bytes new ≡ bytes old
