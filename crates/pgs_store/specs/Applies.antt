-- What `Store::apply` answers, and what becomes of the store.
use Rattle.std.specs.Prelude.{◌≡◌, ℕ, ◌+◌, Bool, true, false, Result, Ok, Err}
use Rattle.pgs_base.specs.Graph.{Graph}
use Rattle.pgs_codec.specs.declared.command.Command.TheVariants.{Txn as Transaction}
use Rattle.pgs_graph.specs.declared.operation.Txn.{Txn}
use Rattle.pgs_journal.specs.declared.journal.Journal.{Journal}
use Rattle.pgs_store.specs.declared.fault.ApplyFault.{ApplyFault}
use Rattle.pgs_store.specs.declared.fault.ApplyFault.TheVariants.{Memory, DiskFault, NeedsReopen, Rejected}
use Rattle.pgs_store.specs.State.{GuardState}
use Rattle.pgs_store.specs.Stored.{StoreState, StandsOn, committed, longer}
use Rattle.pgs_violation.specs.declared.rejection.Rejection.{Rejection}
use Rattle.pgs_violation.specs.Decision.{decide}
use Rattle.pgs_violation.specs.Violations.{verdict}
use Rattle.pgs_world.specs.World.{View}

abbrev pub is_disk_fault : {T : Type 0} → Result T ApplyFault → Bool
is_disk_fault (Ok done) = false
is_disk_fault (Err Memory) = false
is_disk_fault (Err DiskFault) = true
is_disk_fault (Err NeedsReopen) = false
is_disk_fault (Err (Rejected rejection)) = false

-- it comes before the first call on the world
abbrev pub is_early : {T : Type 0} → Result T ApplyFault → Bool
is_early (Ok done) = false
is_early (Err Memory) = true
is_early (Err DiskFault) = false
is_early (Err NeedsReopen) = true
is_early (Err (Rejected rejection)) = true

-- the transaction, which leads to this graph, was committed under this number, its record ends the journal, and the store stands on
-- the world
pub record IsCommitted (old new : GuardState) (before after : Journal) (txn : Txn) (next : Graph) (number : ℕ) (now : View) : Type 0 where
  pub numbered : number ≡ old.commits + 1
  pub guard : new ≡ committed old next
  pub journal : after ≡ longer before (Transaction txn)
  pub stands : StandsOn new after now

-- the decision on a transaction by a guard
abbrev pub decided : GuardState → Txn → Result Graph Rejection
decided guard txn = decide guard.limits (verdict guard.schema) guard.graph txn

-- of a guard and its journal: the transaction was accepted and committed, or nothing changed
abbrev pub Journals : Result ℕ ApplyFault → GuardState → GuardState → Journal → Journal → Txn → View → Type 0
Journals (Ok number) old new before after txn now =
    (decided old txn ≡ Ok new.graph) × IsCommitted old new before after txn new.graph number now
Journals (Err Memory) old new before after txn now = (new ≡ old) × (after ≡ before)
Journals (Err (Rejected rejection)) old new before after txn now = (new ≡ old) × (after ≡ before) × (decided old txn ≡ Err rejection)
Journals (Err DiskFault) old new before after txn now = (new ≡ old) × (after ≡ before)
Journals (Err NeedsReopen) old new before after txn now = ⊥

-- An earlier call answered `DiskFault`, or none did and: the transaction was accepted and committed; there was no memory; it is
-- rejected as it is decided; or an area failed, and only the mark is set.
abbrev pub Applies : Result ℕ ApplyFault → StoreState → StoreState → Txn → View → Type 0
Applies (Ok number) old new txn now =
    (old.failed ≡ false) × (new.failed ≡ false) × (decided old.guard txn ≡ Ok new.guard.graph)
    × IsCommitted old.guard new.guard old.journal new.journal txn new.guard.graph number now
Applies (Err Memory) old new txn now = (old.failed ≡ false) × (new ≡ old)
Applies (Err (Rejected rejection)) old new txn now = (old.failed ≡ false) × (new ≡ old) × (decided old.guard txn ≡ Err rejection)
Applies (Err DiskFault) old new txn now = (old.failed ≡ false) × (new ≡ record old { failed = true })
Applies (Err NeedsReopen) old new txn now = (old.failed ≡ true) × (new ≡ old)
