-- What `Store::recover` answers.
use Rattle.std.specs.Prelude.{◌≡◌, ℕ, Bool, true, false, IsTrue, Result, Ok, Err}
use Rattle.pgs_base.specs.declared.limits.Limits.{Limits}
use Rattle.pgs_schema.specs.Told.{answer_of}
use Rattle.pgs_snapshot.specs.Saved.{History, RecordFault, Replayed, SavedState, refused, rejected, saved, store}
use Rattle.pgs_snapshot.specs.Saved as states
use Rattle.pgs_decide.specs.declared.refusal.GuardRefusal.{GuardRefusal}
use Rattle.pgs_decide.specs.declared.refusal.GuardRefusal.TheVariants as guards
use Rattle.pgs_store.specs.declared.fault.RecoverFault.{RecoverFault}
use Rattle.pgs_store.specs.declared.fault.SchemaRefusal.{SchemaRefusal}
use Rattle.pgs_store.specs.declared.fault.SchemaRefusal.TheVariants as refusals
use Rattle.pgs_violation.specs.declared.rejection.Rejection.TheVariants.{Violation as ByViolation}
use Rattle.pgs_store.specs.declared.fault.RecoverFault.TheVariants.{Memory, DiskFault, NoStore, Foreign, BadRecord, BadHistory, Schema}
use Rattle.pgs_store.specs.State.{GuardState}
use Rattle.pgs_store.specs.Stored.{StoreState, StandsOn}
use Rattle.pgs_world.specs.World.{View}

-- an area failed
abbrev pub is_of_area : RecoverFault → Bool
is_of_area Memory = false
is_of_area DiskFault = true
is_of_area NoStore = false
is_of_area Foreign = false
is_of_area (BadRecord number) = false
is_of_area (BadHistory number rejection) = false
is_of_area (Schema fault) = false

abbrev pub is_disk_fault : {T : Type 0} → Result T RecoverFault → Bool
is_disk_fault (Ok done) = false
is_disk_fault (Err fault) = is_of_area fault

-- a guard's refusal of the record of this number, and what is said of its schema, as faults
abbrev pub of_refusal : ℕ → GuardRefusal → RecoverFault
of_refusal number guards.Memory = Memory
of_refusal number (guards.Rejected rejection) = BadHistory number rejection

abbrev pub of_schema_refusal : ℕ → SchemaRefusal → RecoverFault
of_schema_refusal number refusals.Memory = Memory
of_schema_refusal number (refusals.Schema fault) = Schema fault
of_schema_refusal number (refusals.Violated violation) = BadHistory number (ByViolation violation)

-- why the record of this number isn't taken, as a fault
abbrev pub IsUntaken : ℕ → Result Replayed RecordFault → RecoverFault → Type 0
IsUntaken number after (BadHistory at rejection) = (at ≡ number) × (after ≡ Err (rejected rejection))
IsUntaken number after (Schema fault) = after ≡ Err (refused (answer_of fault))
IsUntaken number after Memory = Unit {0}
IsUntaken number after DiskFault = ⊥
IsUntaken number after NoStore = ⊥
IsUntaken number after Foreign = ⊥
IsUntaken number after (BadRecord at) = ⊥

-- a record isn't taken by the replay
abbrev pub IsUnreplayed : History → RecoverFault → Type 0
IsUnreplayed history (BadHistory number rejection) = history ≡ Err (number, rejected rejection)
IsUnreplayed history (Schema fault) = (number : ℕ) × (history ≡ Err (number, refused (answer_of fault)))
IsUnreplayed history Memory = Unit {0}
IsUnreplayed history DiskFault = ⊥
IsUnreplayed history NoStore = ⊥
IsUnreplayed history Foreign = ⊥
IsUnreplayed history (BadRecord number) = ⊥

-- nothing is saved, for this reason
abbrev pub IsUnrecovered : SavedState → RecoverFault → Type 0
IsUnrecovered state NoStore = state ≡ states.no_store
IsUnrecovered state Foreign = state ≡ states.foreign
IsUnrecovered state (BadRecord number) = state ≡ states.bad_record number
IsUnrecovered state (Schema fault) = state ≡ states.bad_schema (answer_of fault)
IsUnrecovered state (BadHistory number rejection) = state ≡ states.bad_history number rejection
IsUnrecovered state Memory = Unit {0}
IsUnrecovered state DiskFault = Unit {0}

-- where the replay of a store's records stands
abbrev pub replayed_in : GuardState → Replayed
replayed_in guard = record { text = guard.text; schema = guard.schema; commits = guard.commits; graph = guard.graph }

-- what is saved is recovered, and it stands on the world
pub record IsRecovered (limits : Limits) (it : StoreState) (old now : View) : Type 0 where
  pub limits_kept : it.guard.limits ≡ limits
  pub whole : it.failed ≡ false
  pub saves : IsTrue old.tells_bytes → saved limits old.shown.a old.shown.b ≡ store it.guard.text it.guard.commits it.guard.graph
  pub stands : StandsOn it.guard it.journal now

abbrev pub Recovers : Result StoreState RecoverFault → Limits → View → View → Type 0
Recovers (Ok it) limits old now = IsRecovered limits it old now
Recovers (Err fault) limits old now = IsTrue old.tells_bytes → IsUnrecovered (saved limits old.shown.a old.shown.b) fault
