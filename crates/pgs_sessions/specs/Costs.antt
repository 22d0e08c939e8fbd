-- How many look-ups in the graph and in its key index an event takes at most.
use Rattle.std.specs.Prelude.{◌≡◌, ◌+◌, ◌≤◌, ℕ, [], Option}
use Rattle.std.specs.Option.{option_map_or}
use Rattle.pgs_graph.specs.declared.operation.Txn.{Txn}
use Rattle.pgs_sessions_machine.specs.declared.event.Event.{Event}
use Rattle.pgs_sessions_machine.specs.declared.event.Event.TheVariants.{Begin, Read, Stage, Commit, Abort}
use Rattle.pgs_sessions_machine.specs.Machine.{Session}
use Rattle.pgs_sessions.specs.Open.{at_number}
use Rattle.pgs_sessions.specs.State.{SessionsState}
use Rattle.pgs_store.specs.Costs.{IsWithin}
use Rattle.pgs_store.specs.State.{GuardState}

-- Between two counts at most twice as many were taken as a guard may take for a transaction: one part is within that, and so is the rest.
abbrev pub IsWithinTwice : GuardState → Txn → ℕ → ℕ → Type 0
IsWithinTwice guard txn before after = (middle : ℕ) × IsWithin guard txn before middle × IsWithin guard txn middle after

-- what a session staged, as one transaction: no operation where none is open
abbrev pub txn_in : Option Session → Txn
txn_in session = record { ops = option_map_or (λ (own : Session). own.staged) session [] }

abbrev pub staged_at : SessionsState → ℕ → Txn
staged_at value number = txn_in (at_number value.sessions number)

-- a Read takes one at most, a Commit twice what the guard may for what the session staged, and every other event none
abbrev pub StepsWithin : Event → SessionsState → ℕ → ℕ → Type 0
StepsWithin (Begin number) value before after = after ≡ before
StepsWithin (Read number elem) value before after = after ≤ before + 1
StepsWithin (Stage number txn) value before after = after ≡ before
StepsWithin (Commit number) value before after = IsWithinTwice value.guard (staged_at value number) before after
StepsWithin (Abort number) value before after = after ≡ before
