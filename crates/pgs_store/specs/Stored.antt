-- What contracts see of a store, what holds of every store, and what it is to stand on a world.
use Rattle.std.specs.Prelude.{◌≡◌, ◌⊎◌, ℕ, ◌+◌, ◌-◌, ◌*◌, ◌≤◌, ◌<◌, Bool, IsTrue, List, [], ◌∷◌, length, Some, Ok}
use Rattle.pgs_base.specs.declared.limits.Limits.{Limits}
use Rattle.pgs_base.specs.declared.seed.Seed.{Seed}
use Rattle.pgs_base.specs.declared.seed.Seed.TheVariants.{Fixed}
use Rattle.pgs_base.specs.Graph.{Graph, empty_graph}
use Rattle.pgs_codec.specs.declared.command.Command.{Command}
use Rattle.pgs_codec.specs.declared.command.Command.TheVariants.{Schema, Snapshot, Txn as Transaction}
use Rattle.pgs_codec.specs.Frame.{framed}
use Rattle.pgs_codec.specs.Payload.{payload_of}
use Rattle.pgs_graph.specs.declared.operation.Txn.{Txn}
use Rattle.pgs_journal.specs.declared.journal.Journal.{Journal}
use Rattle.pgs_journal.specs.Format.{advanced, is_epoch, IsNextWithin}
use Rattle.pgs_resolve.specs.SchemaOf.{schema, schema_of}
use Rattle.pgs_snapshot.specs.Choice.{choice_of, no_store}
use Rattle.pgs_snapshot.specs.Saved.{saved_of, store}
use Rattle.pgs_snapshot.specs.Standing.{HasStore}
use Rattle.pgs_syntax.specs.declared.resolved.Resolved.{Resolved}
use Rattle.pgs_violation.specs.declared.violation.Verdict.TheVariants.{Conforms}
use Rattle.pgs_violation.specs.Decision.{decide}
use Rattle.pgs_violation.specs.Violations.{verdict}
use Rattle.pgs_world.specs.declared.area.Area.TheVariants.{A}
use Rattle.pgs_world.specs.Moment.{IsSettled}
use Rattle.pgs_world.specs.World.{Triple, View, other}
use Rattle.pgs_store.specs.State.{GuardState}
use Rattle.pgs_world.specs.declared.area_limit.TheConstants.{AREA_LIMIT}

-- the guard, the journal, and whether an earlier call answered `DiskFault`
pub record StoreState : Type 0 where
  pub guard : GuardState
  pub journal : Journal
  pub failed : Bool

-- the epoch is one of those that there are, the journal ends inside an area, its next number is no greater than its end, and there are
-- no more commits than so many stores may have
pub record IsBounded (journal : Journal) (commits : ℕ) : Type 0 where
  pub epoch : IsTrue (is_epoch journal.epoch)
  pub end : journal.end < AREA_LIMIT
  pub next : IsNextWithin journal.next journal.end
  pub most : commits ≤ (journal.epoch - 1) * AREA_LIMIT + journal.end

-- Of a triple's images the journal's area is chosen, with its epoch and end and these records, which lead to the guard's text,
-- commits and graph.
pub record IsSavedBy (guard : GuardState) (journal : Journal) (payloads : List (List ℕ)) (triple : Triple) : Type 0 where
  pub has : HasStore journal.area journal.epoch journal.end journal.next payloads triple
  pub saves : saved_of guard.limits payloads ≡ store guard.text guard.commits guard.graph

-- the same with some records
abbrev pub IsSavedIn : GuardState → Journal → Triple → Type 0
IsSavedIn guard journal triple = (payloads : List (List ℕ)) × IsSavedBy guard journal payloads triple

-- Where the world tells its bytes, they hold the store; where it is also honest, nothing is pending.
pub record StandsOn (guard : GuardState) (journal : Journal) (view : View) : Type 0 where
  pub saved : IsTrue view.tells_bytes → IsSavedIn guard journal view.shown
  pub settled : IsTrue view.honest → IsTrue view.tells_bytes → IsSettled view

-- a guard after one commit more
abbrev pub committed : GuardState → Graph → GuardState
committed guard graph = record guard { graph = graph; commits = guard.commits + 1 }

-- how many bytes the record of a command takes in a journal, behind its gate and with the gate behind it
abbrev pub record_length : Journal → Command → ℕ
record_length journal command = length (framed journal.next (payload_of command))

-- the journal with the record of a command more, in the same area and of the same epoch
abbrev pub longer : Journal → Command → Journal
longer journal command = record journal { end = journal.end + record_length journal command; next = advanced journal.next }

-- what a stop during `apply` leaves: the store as it was, or with the transaction accepted and its record behind the others
abbrev pub IsAppliedIn : GuardState → Journal → Txn → Triple → Type 0
IsAppliedIn guard journal txn triple =
    IsSavedIn guard journal triple
    ⊎ ((graph : Graph) × (decide guard.limits (verdict guard.schema) guard.graph txn ≡ Ok graph)
    × IsSavedIn (committed guard graph) (longer journal (Transaction txn)) triple)

-- a guard under another schema: the graph and the commits stay
abbrev pub evolved : GuardState → List ℕ → Resolved → GuardState
evolved guard text resolved = record guard { text = text; schema = resolved }

-- the text is a schema's, under which the graph of a guard conforms
abbrev pub IsConforming : GuardState → List ℕ → Resolved → Type 0
IsConforming guard text resolved = (schema_of text ≡ schema resolved) × (verdict resolved guard.graph ≡ Conforms)

-- what a stop during `evolve` leaves: the store as it was, or under the new schema with its record behind the others
abbrev pub IsEvolvedIn : GuardState → Journal → List ℕ → Triple → Type 0
IsEvolvedIn guard journal text triple =
    IsSavedIn guard journal triple
    ⊎ ((resolved : Resolved) × IsConforming guard text resolved
    × IsSavedIn (evolved guard text resolved) (longer journal (Schema text)) triple)

-- a guard of a text's schema that was just made, and the journal of a first store
abbrev pub opened : List ℕ → Resolved → Limits → Seed → GuardState
opened text resolved limits seed = record { text = text; schema = resolved; limits = limits; graph = empty_graph; commits = 0; seed = seed }

abbrev pub first_journal : ℕ → Journal
first_journal end = record { area = A; epoch = 1; end = end; next = Some 2 }

-- what a stop during `load` leaves: no store, or the empty store of the text in area A, of epoch 1; what is saved says nothing of a seed
abbrev pub IsLoadedIn : Limits → List ℕ → Triple → Type 0
IsLoadedIn limits text triple =
    (choice_of triple.a triple.b ≡ no_store)
    ⊎ ((resolved : Resolved) × (end : ℕ) × (schema_of text ≡ schema resolved)
    × IsSavedIn (opened text resolved limits Fixed) (first_journal end) triple)

-- the records with which a store begins anew: the schema and the snapshot alone
abbrev pub snapshot_of : GuardState → Command
snapshot_of guard = Snapshot guard.commits guard.graph.nodes guard.graph.edges

abbrev pub renewed : GuardState → List (List ℕ)
renewed guard = payload_of (Schema guard.text) ∷ payload_of (snapshot_of guard) ∷ []

-- the journal of these records in the other area, of the next epoch
abbrev pub next_journal : Journal → ℕ → Journal
next_journal journal end = record { area = other journal.area; epoch = journal.epoch + 1; end = end; next = Some 3 }

-- what a stop during `checkpoint` leaves: the store as it was, or the same by the new records in the other area, of the next epoch
abbrev pub IsRenewedIn : GuardState → Journal → Triple → Type 0
IsRenewedIn guard journal triple =
    IsSavedIn guard journal triple ⊎ ((end : ℕ) × IsSavedBy guard (next_journal journal end) (renewed guard) triple)
