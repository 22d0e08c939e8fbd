-- Where a run of `apply` stands between two lines: the store, and what was counted.
use Rattle.std.specs.Prelude.{◌≡◌, ℕ, ◌+◌, Bool, true, false, if◌then◌else◌}
use Rattle.pgs_base.specs.Graph.{Graph}
use Rattle.pgs_codec.specs.declared.command.Command.TheVariants.{Txn as Transaction}
use Rattle.pgs_graph.specs.declared.operation.Txn.{Txn}
use Rattle.pgs_journal.specs.declared.journal.Journal.{Journal}
use Rattle.pgs_store.specs.State.{GuardState}
use Rattle.pgs_store.specs.Stored.{StandsOn, committed, longer}
use Rattle.pgs_world.specs.World.{View}
use Rattle.pgs_command.specs.declared.status.Status.{Status}
use Rattle.pgs_command.specs.declared.status.Status.TheVariants.{Accepted, Refused}
use Rattle.pgs_run_input.specs.Session.{Standing, standard}

-- the store, how many lines are numbered so far, and whether one was refused
pub record ApplyState : Type 0 where
  pub guard : GuardState
  pub journal : Journal
  -- whether an area failed under the store
  pub failed : Bool
  pub number : ℕ
  pub refused : Bool

-- the same without the store's own
abbrev pub standing_of : ApplyState → Standing
standing_of s = record { number = s.number; commits = s.guard.commits; refused = s.refused; graph = s.guard.graph }

-- a line more is numbered, and refused
abbrev pub with_refusal : ApplyState → ApplyState
with_refusal s = record s { number = s.number + 1; refused = true }

-- a line more is numbered, whose transaction led to this graph and is the journal's last record
abbrev pub with_commit : ApplyState → Txn → Graph → ApplyState
with_commit s txn g = record {
  guard = committed s.guard g;
  journal = longer s.journal (Transaction txn);
  failed = s.failed;
  number = s.number + 1;
  refused = s.refused;
}

-- the status after a whole input, by whether a line was refused
abbrev pub status_after : Bool → Status
status_after refused = if refused then Refused else Accepted

-- the store is within the limits of the program, no area failed under it, and it stands on the world
pub record HoldsStore (s : ApplyState) (view : View) : Type 0 where
  pub limits : s.guard.limits ≡ standard
  pub whole : s.failed ≡ false
  pub stands : StandsOn s.guard s.journal view
