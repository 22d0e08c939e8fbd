-- What the opening of a saved store answers.
use Rattle.std.specs.Prelude.{◌≡◌, ℕ, Bool, true, false, IsTrue, List, [], ◌∷◌, Result, Ok, Err}
use Rattle.pgs_run_lines.specs.Machine.{Told}
use Rattle.pgs_command.specs.declared.status.Status.{Status}
use Rattle.pgs_command.specs.declared.status.Status.TheVariants.{SchemaRefused, StoreRefused}
use Rattle.pgs_run_input.specs.Answers.{schema_answer}
use Rattle.pgs_command.specs.Areas.{areas_of}
use Rattle.pgs_run_input.specs.Session.{standard}
use Rattle.pgs_snapshot.specs.Saved.{SavedState, saved, store}
use Rattle.pgs_store.specs.declared.fault.RecoverFault.{RecoverFault}
use Rattle.pgs_store.specs.Recovers.{IsUnrecovered, is_of_area}
use Rattle.pgs_store.specs.Stored.{StoreState, StandsOn}
use Rattle.pgs_world.specs.World.{View}
use Rattle.pgs_run_store.specs.declared.opening.Unopened.{Unopened}
use Rattle.pgs_run_store.specs.declared.opening.Unopened.TheVariants.{Refused, DiskFault, Memory}
use Rattle.pgs_run_store.specs.Refusing.{SavedStore, told_saved, told_of_areas}

-- an area failed
abbrev pub is_failure : Unopened → Bool
is_failure (Refused reply) = false
is_failure DiskFault = true
is_failure Memory = false

abbrev pub is_disk_fault : {T : Type 0} → Result T Unopened → Bool
is_disk_fault (Ok done) = false
is_disk_fault (Err unopened) = is_failure unopened

-- what a store is to the definitions of what is told
abbrev pub saved_in : StoreState → SavedStore
saved_in it = record { text = it.guard.text; schema = it.guard.schema; commits = it.guard.commits; graph = it.guard.graph }

-- what is saved is opened, and stands on the world
pub record IsOpened (it : StoreState) (old now : View) : Type 0 where
  pub limits : it.guard.limits ≡ standard
  pub whole : it.failed ≡ false
  pub schema : schema_answer it.guard.text ≡ Ok it.guard.schema
  pub saves : IsTrue old.tells_bytes → saved standard old.shown.a old.shown.b ≡ store it.guard.text it.guard.commits it.guard.graph
  pub stands : StandsOn it.guard it.journal now

-- the statuses of a refusal
abbrev pub IsRefusal : Status → Type 0
IsRefusal SchemaRefused = Unit {0}
IsRefusal StoreRefused = Unit {0}
IsRefusal status = ⊥

-- a refusal has one of these statuses
abbrev pub IsRefusing : Unopened → Type 0
IsRefusing (Refused reply) = IsRefusal reply.status
IsRefusing DiskFault = Unit {0}
IsRefusing Memory = Unit {0}

-- whatever a command tells of a store, a refusal's line and status are told of what is saved
abbrev pub IsUnopened : SavedState → Unopened → Type 0
IsUnopened state (Refused reply) =
    (go : SavedStore → Told Status) → told_saved state go ≡ record { pieces = reply.line ∷ []; status = reply.status }
IsUnopened state DiskFault = Unit {0}
IsUnopened state Memory = Unit {0}

-- why no store is opened where none is recovered for this fault
pub record Unopens (fault : RecoverFault) (unopened : Unopened) : Type 0 where
  pub told : (state : SavedState) → IsUnrecovered state fault → IsUnopened state unopened
  pub refusal : IsRefusing unopened
  pub area : is_failure unopened ≡ is_of_area fault

-- whatever a command tells of a store, this is told of the two areas
abbrev pub IsToldOf : View → List ℕ → Status → Type 0
IsToldOf view line status = IsTrue view.tells_bytes → (go : SavedStore → Told Status)
    → told_of_areas (areas_of view) go ≡ record { pieces = line ∷ []; status = status }

abbrev pub Opens : Result StoreState Unopened → View → View → Type 0
Opens (Ok it) old now = IsOpened it old now
Opens (Err (Refused reply)) old now = IsRefusal reply.status × IsToldOf old reply.line reply.status
Opens (Err DiskFault) old now = Unit {0}
Opens (Err Memory) old now = Unit {0}
