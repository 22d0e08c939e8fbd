-- What is promised of a run of a command, from what there was at its start to what there is at its end.
use Rattle.std.specs.Prelude.{◌≡◌, ◌⊎◌, ℕ, ◌-◌, ◌<◌, true, false, List, length, Some, IsTrue}
use Rattle.pgs_feed.specs.Places.{Place, lost_count}
use Rattle.pgs_run_lines.specs.Machine.{Told}
use Rattle.pgs_run_lines.specs.Pieces.{shown_of, ShowsAll}
use Rattle.pgs_world.specs.Count.{RoseByOne}
use Rattle.pgs_world.specs.Moment.{IsQuiet, IsSettled, IsTimed}
use Rattle.pgs_world.specs.World.{View}
use Rattle.pgs_command.specs.declared.status.Status.{Status}
use Rattle.pgs_command.specs.declared.status.Status.TheVariants.{BadWords, SchemaRefused, StoreRefused, DiskFault, ReadFault, Memory}
use Rattle.pgs_command.specs.Areas.{areas_of}
use Rattle.pgs_command.specs.Ending.{Ends}
use Rattle.pgs_command.specs.Run.{HasCause, IsRead, IsComplete, TakesWithin}
use Rattle.pgs_command.specs.Setting.{SourceState, Setting, faults_in}
use Rattle.pgs_command.specs.Spec.{CommandSpec}

-- the source tells this input, where the command reads it, and the world tells its bytes, where what is told rests on the areas
pub record Knows (spec : CommandSpec) (old : Setting) (input : List ℕ) : Type 0 where
  pub source : spec.reads_source ≡ true → old.source.left ≡ Some input
  pub bytes : spec.AsksAreas input → IsTrue old.view.tells_bytes

-- what is told by a choice, of this input within so many bytes: the areas are those of the start, the lost feeds those of the end
abbrev pub telling : (spec : CommandSpec) → spec.Choice → Setting → Setting → List ℕ → ℕ → Told Status
telling spec choice old new input bytes = spec.told choice input (areas_of old.view) bytes (lost_count new.places)

-- no count of faults rose that the command may raise
pub record IsUndisturbed (spec : CommandSpec) (old new : Setting) : Type 0 where
  pub reads : spec.reads_source ≡ true → RoseByOne old.source.faults new.source.faults → ⊥
  pub areas : spec.uses_areas ≡ true → RoseByOne old.view.area_faults new.view.area_faults → ⊥
  pub puts : RoseByOne old.view.put_faults new.view.put_faults → ⊥

-- what is told is no refusal of a schema or a store, where the command has these
pub record IsUnrefused (spec : CommandSpec) (said : Told Status) : Type 0 where
  pub schema : spec.MayEnd SchemaRefused → said.status ≡ SchemaRefused → ⊥
  pub store : spec.uses_areas ≡ true → said.status ≡ StoreRefused → ⊥

pub record Promise (spec : CommandSpec) (budget : ℕ) (old new : Setting) (status : Status) : Type 0 where
  -- There is a choice by which all of this holds, and it is right.
  pub choice : spec.Choice
  pub right : spec.IsRight choice old budget status
  -- What the world shows, by the status. With 0 to 4 and 9 it is all that is told, each piece one put that answered Ok, and the status is
  -- the one told. With 6 it is all that is told with the number of bytes that the reads gave in the budget's place.
  pub shown : (input : List ℕ) → Knows spec old input → Ends (shown_of old.view) (telling spec choice old new input budget) status (shown_of new.view)
  pub read_fault : (input rest : List ℕ) → Knows spec old input → old.source.left ≡ Some input → new.source.left ≡ Some rest → status ≡ ReadFault
      → ShowsAll (shown_of old.view) (telling spec choice old new input (length input - length rest)).pieces (shown_of new.view)
  -- What is read: never more than the budget, all of it with 9, and nothing where the command reads nothing or reads in vain. With 0 and 1
  -- the source was read to its end.
  pub takes : (input rest : List ℕ) → old.source.left ≡ Some input → new.source.left ≡ Some rest → TakesWithin input budget rest status
  pub unread : spec.reads_source ≡ false → new.source ≡ old.source
  pub in_vain : spec.ReadsInVain old status → new.source ≡ old.source
  pub read_to_end : spec.reads_source ≡ true → IsRead new.source.left status
  -- When each answer comes. A fault comes only where its count rose, and where it isn't the answer its count is as before.
  pub ends : spec.MayEnd status
  pub cause : HasCause spec.reads_source spec.uses_areas (faults_in old) (faults_in new) status
  -- An input below the budget, whose schema and store aren't refused, over a source and a world that don't fail, is run to its end.
  pub complete : (input : List ℕ) → Knows spec old input → (spec.MayEnd BadWords → ⊥) → (spec.reads_source ≡ true → length input < budget)
      → IsUnrefused spec (telling spec choice old new input budget) → IsUndisturbed spec old new
      → IsComplete (shown_of old.view) (telling spec choice old new input budget) status (shown_of new.view)
  -- What a stop during the run leaves of both areas, and what there is at its end. Unless an area failed, nothing is pending then.
  pub leaves : spec.Leaves old new status
  pub settles : IsSettled old.view → (status ≡ DiskFault → ⊥) → IsSettled new.view
  pub feeds : spec.Feeds old new status

-- a command that reads nothing and has no feeds, over any source
abbrev pub PromiseAlone : CommandSpec → View → View → Status → Type 0
PromiseAlone spec old new status = (budget : ℕ) (source : SourceState) (places : List Place)
    → Promise spec budget (record { source = source; view = old; places = places }) (record { source = source; view = new; places = places }) status

-- Memory was wanting before anything was done: nothing was read, put, written or given to feeds, and no fault came.
pub record IsUnbegun (old new : Setting) (status : Status) : Type 0 where
  pub memory : status ≡ Memory
  pub source : new.source ≡ old.source
  pub places : new.places ≡ old.places
  pub faults : faults_in new ≡ faults_in old
  pub shown : shown_of new.view ≡ shown_of old.view
  pub timed : IsTimed old.view
  pub quiet : IsQuiet old.view new.view

-- a run of words that name a command: words are read before the command is known, and reading them takes memory
abbrev pub Runs : CommandSpec → ℕ → Setting → Setting → Status → Type 0
Runs spec budget old new status = IsUnbegun old new status ⊎ Promise spec budget old new status
