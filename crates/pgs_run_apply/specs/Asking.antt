-- What the store of a run answers to a transaction, and what becomes of it.
use Rattle.std.specs.Prelude.{◌≡◌, Bool, true, false, Option, Some, None, Result, Ok, Err}
use Rattle.pgs_base.specs.Graph.{Graph}
use Rattle.pgs_codec.specs.declared.command.Command.TheVariants.{Txn as Transaction}
use Rattle.pgs_graph.specs.declared.operation.Txn.{Txn}
use Rattle.pgs_run_lines.specs.declared.stop.Stop.{Stop}
use Rattle.pgs_run_lines.specs.declared.stop.Stop.TheVariants as stops
use Rattle.pgs_store.specs.Applies.{decided}
use Rattle.pgs_store.specs.Stored.{StoreState, StandsOn, committed, longer}
use Rattle.pgs_violation.specs.declared.rejection.Rejection.{Rejection}
use Rattle.pgs_world.specs.Count.{RoseByOne}
use Rattle.pgs_world.specs.World.{View}
use Rattle.pgs_command.specs.declared.status.Status.{Status}

-- it comes before the first call on the world
abbrev pub is_early : Result (Option Rejection) (Stop Status) → Bool
is_early (Ok (Some rejection)) = true
is_early (Err stops.Memory) = true
is_early result = false

-- a transaction that led to this graph is on the disk and done, and no area failed
pub record IsDoneBy (before after : StoreState) (txn : Txn) (old new : View) : Type 0 where
  pub graph : Graph
  pub accepted : decided before.guard txn ≡ Ok graph
  pub store : after ≡ record before { guard = committed before.guard graph; journal = longer before.journal (Transaction txn) }
  pub stands : StandsOn (committed before.guard graph) (longer before.journal (Transaction txn)) new
  pub area_faults : new.area_faults ≡ old.area_faults

-- it is done, or rejected; an area failed, or there was no memory
abbrev pub Asks : Result (Option Rejection) (Stop Status) → StoreState → StoreState → Txn → View → View → Type 0
Asks (Ok None) before after txn old new = IsDoneBy before after txn old new
Asks (Ok (Some rejection)) before after txn old new = (decided before.guard txn ≡ Err rejection) × (after ≡ before)
Asks (Err stops.DiskFault) before after txn old new = RoseByOne old.area_faults new.area_faults
Asks (Err stops.Memory) before after txn old new = after ≡ before
Asks result before after txn old new = ⊥
