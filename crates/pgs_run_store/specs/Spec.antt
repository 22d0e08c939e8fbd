-- What commands over both areas are, and one that reads a saved store and tells of it.
use Rattle.std.specs.Prelude.{◌≡◌, ℕ, Bool, true, false, List, []}
use Rattle.pgs_run_lines.specs.AreasKept.{KeepsAreas}
use Rattle.pgs_run_lines.specs.Ending.{faults_of}
use Rattle.pgs_run_lines.specs.Machine.{Told}
use Rattle.pgs_run_lines.specs.Pieces.{shown_of}
use Rattle.pgs_world.specs.World.{View}
use Rattle.pgs_command.specs.declared.status.Status.{Status}
use Rattle.pgs_command.specs.declared.status.Status.TheVariants.{ReadFault, Memory, InputTooLong}
use Rattle.pgs_command.specs.Answers.{IsOfCommand}
use Rattle.pgs_command.specs.Areas.{Areas}
use Rattle.pgs_command.specs.Ending.{Ends}
use Rattle.pgs_command.specs.Images.{KeepsImages}
use Rattle.pgs_command.specs.Run.{HasCause}
use Rattle.pgs_command.specs.Setting.{Setting}
use Rattle.pgs_command.specs.Spec.{CommandSpec}
use Rattle.pgs_run_store.specs.Refusing.{SavedStore, told_of_areas}

-- a command over both areas that chooses nothing and gives feeds nothing: whether it reads its source, what it tells and what it leaves
abbrev pub over_areas : (reads_source : Bool) → (told : List ℕ → Areas → (bytes lost : ℕ) → Told Status) → (Leaves : Setting → Setting → Status → Type 0) → CommandSpec
over_areas reads_source told Leaves = record {
  Choice = Unit {0};
  told = λ choice. told;
  IsRight = λ choice old budget status. Unit {0};
  reads_source = reads_source;
  uses_areas = true;
  AsksAreas = λ input. Unit {0};
  MayEnd = IsOfCommand;
  ReadsInVain = λ old status. ⊥;
  Leaves = Leaves;
  Feeds = λ old new status. new.places ≡ old.places;
  Gives = λ old new status deliveries. deliveries ≡ [];
}

-- it reads a saved store and tells of it, and both areas are what they were at every moment
abbrev pub reader_spec : (tells : SavedStore → Told Status) → CommandSpec
reader_spec tells = over_areas false (λ input areas bytes lost. told_of_areas areas tells) (λ old new status. KeepsImages old.view new.view)

-- with these statuses a run that puts its one line behind its work put nothing
abbrev pub IsUnput : Status → Type 0
IsUnput ReadFault = Unit {0}
IsUnput Memory = Unit {0}
IsUnput InputTooLong = Unit {0}
IsUnput status = ⊥

-- What is told of an opened store was put, and the status is the one told, or that of a put that failed or of no memory. Both areas stay.
pub record PutsTold (told : Told Status) (old : View) (status : Status) (new : View) : Type 0 where
  pub ends : Ends (shown_of old) told status (shown_of new)
  pub answer : IsOfCommand status
  -- no other call failed, and no store is refused
  pub cause : (reads_source uses_areas : Bool) (reads : ℕ) → HasCause reads_source uses_areas (faults_of reads old) (faults_of reads new) status
  pub areas : KeepsAreas old new
