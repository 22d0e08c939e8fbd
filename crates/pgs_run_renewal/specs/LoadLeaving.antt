-- What a run of `load`, and the loading of a text, leave of the world, at every moment and at its end.
use Rattle.std.specs.Prelude.{◌≡◌, ℕ, List, [], Option, Some, Err, IsTrue}
use Rattle.pgs_run_lines.specs.Machine.{Told}
use Rattle.pgs_run_lines.specs.Pieces.{ShowsAll, shown_of}
use Rattle.pgs_store.specs.Loads.{FindsNone}
use Rattle.pgs_world.specs.declared.area.Area.TheVariants.{B}
use Rattle.pgs_world.specs.Moment.{EachSince, IsSettled, Passes}
use Rattle.pgs_world.specs.World.{View}
use Rattle.pgs_command.specs.declared.status.Status.{Status}
use Rattle.pgs_command.specs.declared.status.Status.TheVariants.{DiskFault}
use Rattle.pgs_command.specs.Areas.{areas_of}
use Rattle.pgs_command.specs.Images.{IsUnwritten, KeepsArea, KeepsImages}
use Rattle.pgs_run_input.specs.Answers.{schema_answer}
use Rattle.pgs_run_input.specs.Text.{AnswersText}
pub use Rattle.pgs_run_store.specs.Spec.{IsUnput}
use Rattle.pgs_run_renewal.specs.Loading.{IsLoading, IsLoadingAt, IsMade, IsNewStore, TellsFor}
use Rattle.pgs_run_renewal.specs.LoadTold.{told_text}

-- Where both areas are free, at every moment nothing or the new store is saved; else nothing is written
pub record LeavesLoaded (left : Option (List ℕ)) (old new : View) (status : Status) : Type 0 where
  pub passes : Passes old new
  pub stops : (input : List ℕ) → left ≡ Some input → FindsNone old → IsTrue old.tells_output → IsSettled old
      → EachSince (IsLoadingAt old.shown input) old new
  -- the same whatever source and output tell: nothing, or the empty store of some text that is a schema
  pub grows : FindsNone old → IsSettled old → EachSince IsLoading old new
  -- nothing is written where an area isn't free, where the text is no schema, and with most statuses, want of memory among them
  pub occupied : (FindsNone old → ⊥) → KeepsImages old new
  pub refused : (input why : List ℕ) → left ≡ Some input → schema_answer input ≡ Err why → KeepsImages old new
  pub unwritten : IsUnwritten status → KeepsImages old new
  pub beside : KeepsArea B old new
  -- at the end the new store is there, where its line was put, or its put failed
  pub made : IsTrue old.tells_bytes → (input : List ℕ) → left ≡ Some input → FindsNone old → IsMade input status → IsNewStore input new.shown
  -- a fault of a read, want of memory and a cut come before the line is put
  pub unput : IsUnput status → ShowsAll (shown_of old) [] (shown_of new)

-- What the loading of a text does: what is told of it is put, and what a run leaves whose input it is.
pub record LoadsText (text : List ℕ) (old new : View) (status : Status) : Type 0 where
  pub told : Told Status
  pub is_told : TellsFor text old → told_text text (areas_of old) ≡ told
  pub answers : AnswersText told old new status
  pub leaves : LeavesLoaded (Some text) old new status
  pub settles : IsSettled old → (status ≡ DiskFault → ⊥) → IsSettled new
