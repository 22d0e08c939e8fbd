-- What a run of `apply` leaves of the world, at every moment and at its end, and what its feeds took.
use Rattle.std.specs.Prelude.{◌≡◌, ℕ, List, Option, Some, IsTrue}
use Rattle.pgs_feed.specs.Places.{Place, lost_count}
use Rattle.pgs_snapshot.specs.Choice.{chosen_area}
use Rattle.pgs_world.specs.declared.area.Area.{Area}
use Rattle.pgs_world.specs.Moment.{EachSince, IsSettled, Passes}
use Rattle.pgs_world.specs.World.{View, other}
use Rattle.pgs_command.specs.declared.status.Status.{Status}
use Rattle.pgs_command.specs.Images.{KeepsArea, KeepsImages}
use Rattle.pgs_run_apply.specs.Run.{Saves, IsAppliedAt, IsDecided, IsGrown}
use Rattle.pgs_run_store.specs.Refusing.{SavedStore}

-- the two areas save no store
abbrev pub SavesNone : View → Type 0
SavesNone view = (it : SavedStore) → Saves it view.shown → ⊥

-- At every moment the store is saved after the transactions whose `committed` lines are out whole, or after one more
pub record LeavesApplied (left : Option (List ℕ)) (lost : ℕ) (old new : View) : Type 0 where
  pub passes : Passes old new
  pub stops : (input : List ℕ) (it : SavedStore) → left ≡ Some input → Saves it old.shown → IsTrue old.tells_output → IsSettled old
      → EachSince (IsAppliedAt old.shown it input lost) old new
  -- the same whatever source and output tell: the store after some lines, each decided on the graph after the accepted ones before it
  pub grows : (it : SavedStore) → Saves it old.shown → IsSettled old → EachSince (IsGrown it old.shown) old new
  pub unsaved : IsTrue old.tells_bytes → SavesNone old → KeepsImages old new
  -- the area that isn't chosen is left alone
  pub beside : IsTrue old.tells_bytes → (area : Area) → chosen_area old.shown.a old.shown.b ≡ Some area → KeepsArea (other area) old new

-- How `apply` ends: what was put, what the feeds took, and what is saved.
pub record FeedsApplied (left : Option (List ℕ)) (old new : View) (before after : List Place) (status : Status) : Type 0 where
  pub decided : IsTrue old.tells_bytes → (input : List ℕ) (it : SavedStore) → left ≡ Some input → Saves it old.shown
      → IsDecided it input (lost_count after) old new before after status
  pub unsaved : IsTrue old.tells_bytes → SavesNone old → after ≡ before
