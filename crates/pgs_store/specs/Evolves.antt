-- What `Store::evolve` answers, and what becomes of the store.
use Rattle.std.specs.Prelude.{◌≡◌, ℕ, Bool, true, false, List, Some, None, Result, Ok, Err}
use Rattle.pgs_codec.specs.declared.command.Command.TheVariants as commands
use Rattle.pgs_journal.specs.declared.journal.Journal.{Journal}
use Rattle.pgs_resolve.specs.SchemaOf.{schema, schema_of}
use Rattle.pgs_schema.specs.Told.{answer_of}
use Rattle.pgs_store.specs.declared.fault.EvolveFault.{EvolveFault}
use Rattle.pgs_store.specs.declared.fault.EvolveFault.TheVariants.{Memory, DiskFault, NeedsReopen, OldFormat, Schema, Violated}
use Rattle.pgs_store.specs.declared.fault.SchemaRefusal.{SchemaRefusal}
use Rattle.pgs_store.specs.declared.fault.SchemaRefusal.TheVariants as refusals
use Rattle.pgs_store.specs.State.{GuardState}
use Rattle.pgs_store.specs.Stored.{StoreState, StandsOn, IsConforming, evolved, longer}
use Rattle.pgs_syntax.specs.declared.resolved.Resolved.{Resolved}
use Rattle.pgs_violation.specs.declared.violation.Verdict.TheVariants.{Refused}
use Rattle.pgs_violation.specs.declared.violation.Violation.{Violation}
use Rattle.pgs_violation.specs.Violations.{verdict}
use Rattle.pgs_world.specs.World.{View}

abbrev pub is_disk_fault : {T : Type 0} → Result T EvolveFault → Bool
is_disk_fault (Ok done) = false
is_disk_fault (Err DiskFault) = true
is_disk_fault (Err fault) = false

-- it comes before the first call on the world
abbrev pub is_early : {T : Type 0} → Result T EvolveFault → Bool
is_early (Ok done) = false
is_early (Err DiskFault) = false
is_early (Err fault) = true

-- the text is a schema's, and this is the first violation of the graph of a guard under it
abbrev pub IsViolated : GuardState → List ℕ → Violation → Type 0
IsViolated guard text violation = (resolved : Resolved) × ((schema_of text ≡ schema resolved) × (verdict resolved guard.graph ≡ Refused violation))

-- why a guard isn't put under the schema of a text; want of memory says nothing of it
abbrev pub IsUnfit : GuardState → List ℕ → SchemaRefusal → Type 0
IsUnfit guard text refusals.Memory = Unit {0}
IsUnfit guard text (refusals.Schema fault) = schema_of text ≡ answer_of fault
IsUnfit guard text (refusals.Violated violation) = IsViolated guard text violation

-- the same as a fault of the store
abbrev pub of_refusal : SchemaRefusal → EvolveFault
of_refusal refusals.Memory = Memory
of_refusal (refusals.Schema fault) = Schema fault
of_refusal (refusals.Violated violation) = Violated violation

-- the guard is under the schema of the text, under which its graph conforms; the schema's record ends the journal, and the store stands
-- on the world
pub record IsEvolved (old new : GuardState) (before after : Journal) (text : List ℕ) (now : View) : Type 0 where
  pub resolved : Resolved
  pub conforming : IsConforming old text resolved
  pub guard : new ≡ evolved old text resolved
  pub journal : after ≡ longer before (commands.Schema text)
  pub stands : StandsOn new after now

-- the text is a schema's, to which the graph of a guard conforms
abbrev pub IsFitting : GuardState → List ℕ → Type 0
IsFitting guard text = (resolved : Resolved) × IsConforming guard text resolved

-- of a guard and its journal: the schema is in force, or nothing changed
abbrev pub Renews : Result (Unit {0}) EvolveFault → GuardState → GuardState → Journal → Journal → List ℕ → View → Type 0
Renews (Ok done) old new before after text now = IsEvolved old new before after text now
Renews (Err Memory) old new before after text now = (new ≡ old) × (after ≡ before)
Renews (Err (Schema fault)) old new before after text now = (new ≡ old) × (after ≡ before) × (schema_of text ≡ answer_of fault)
Renews (Err (Violated violation)) old new before after text now = (new ≡ old) × (after ≡ before) × IsViolated old text violation
Renews (Err DiskFault) old new before after text now = (new ≡ old) × (after ≡ before) × IsFitting old text
Renews (Err NeedsReopen) old new before after text now = ⊥
Renews (Err OldFormat) old new before after text now = ⊥

-- the journal is of the second format
abbrev pub IsNumbered : Journal → Type 0
IsNumbered journal = (number : ℕ) × (journal.next ≡ Some number)

-- no earlier call answered `DiskFault`, and the store is of the second format
pub record IsOpen (store : StoreState) : Type 0 where
  pub whole : store.failed ≡ false
  pub numbered : IsNumbered store.journal

-- An earlier call answered `DiskFault`, or none did and: the store is of the first format; or it is of the second and: the text is no
-- schema; the graph has a violation under it; there was no memory; an area failed, the graph conforms to the schema, and only the mark is
-- set; or the schema is in force.
abbrev pub Evolves : Result (Unit {0}) EvolveFault → StoreState → StoreState → List ℕ → View → Type 0
Evolves (Ok done) old new text now =
    IsOpen old × (new.failed ≡ false) × IsEvolved old.guard new.guard old.journal new.journal text now
Evolves (Err NeedsReopen) old new text now = (old.failed ≡ true) × (new ≡ old)
Evolves (Err OldFormat) old new text now = (old.failed ≡ false) × (old.journal.next ≡ None) × (new ≡ old)
Evolves (Err (Schema fault)) old new text now = IsOpen old × (new ≡ old) × (schema_of text ≡ answer_of fault)
Evolves (Err (Violated violation)) old new text now = IsOpen old × (new ≡ old) × IsViolated old.guard text violation
Evolves (Err Memory) old new text now = IsOpen old × (new ≡ old)
Evolves (Err DiskFault) old new text now = IsOpen old × (new ≡ record old { failed = true }) × IsFitting old.guard text
