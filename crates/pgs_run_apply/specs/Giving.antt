-- What a run of `apply` gives to its feeds, and how many puts were answered Ok before each line of it.
use Rattle.std.specs.Prelude.{◌≡◌, ◌⊎◌, ℕ, List, [], ◌++◌, Option, Some, IsTrue}
use Rattle.pgs_feed.specs.Deliveries.{Delivery, behind}
use Rattle.pgs_run_lines.specs.Pieces.{shown_of}
use Rattle.pgs_violation.specs.Violations.{verdict}
use Rattle.pgs_world.specs.World.{View}
use Rattle.pgs_command.specs.declared.status.Status.{Status}
use Rattle.pgs_run_store.specs.Refusing.{SavedStore}
use Rattle.pgs_run_apply.specs.Committing.{deliveries}
use Rattle.pgs_run_apply.specs.Leaving.{SavesNone}
use Rattle.pgs_run_apply.specs.Run.{Saves, IsPutBy}
use Rattle.pgs_run_apply.specs.Told.{all_lines, start}

-- Some first lines were decided, and what was put is what they tell. The feed line of each accepted one among them was given when the pieces
-- of the lines before it had been put, and no more: so before its verdict line.
pub record IsGivenBy (it : SavedStore) (input : List ℕ) (lost : ℕ) (old new : View) (status : Status) (given : List Delivery) : Type 0 where
  pub until : List (List ℕ)
  pub later : List (List ℕ)
  pub parts : all_lines input ≡ until ++ later
  pub put : IsPutBy it until later lost (shown_of old) (shown_of new) status
  pub is : given ≡ behind old.puts (deliveries (verdict it.schema) (start it) until)

-- these are the feed lines of some lines, decided on some store, each before its verdict line
pub record IsBefore (puts : ℕ) (given : List Delivery) : Type 0 where
  pub it : SavedStore
  pub lines : List (List ℕ)
  pub is : given ≡ behind puts (deliveries (verdict it.schema) (start it) lines)

pub record GivesApplied (left : Option (List ℕ)) (lost : ℕ) (old new : View) (status : Status) (given : List Delivery) : Type 0 where
  pub decided : IsTrue old.tells_bytes → (input : List ℕ) (it : SavedStore) → left ≡ Some input → Saves it old.shown → IsGivenBy it input lost old new status given
  pub unsaved : IsTrue old.tells_bytes → SavesNone old → given ≡ []
  -- whatever source and world tell
  pub before : (given ≡ []) ⊎ IsBefore old.puts given
