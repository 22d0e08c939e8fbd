-- What a decision on what a session staged brings.
use Rattle.std.specs.Prelude.{◌≡◌, ◌+◌, Some, Result, Ok, Err, if◌then◌else◌}
use Rattle.pgs_base.specs.declared.element.Elem.{Elem}
use Rattle.pgs_base.specs.declared.memory.Memory.{Memory}
use Rattle.pgs_base.specs.Graph.{Graph}
use Rattle.pgs_graph.specs.declared.operation.Txn.{Txn}
use Rattle.pgs_sessions_machine.specs.declared.event.Reply.{Reply}
use Rattle.pgs_sessions_machine.specs.declared.event.Reply.TheVariants.{Committed, Rejected}
use Rattle.pgs_sessions_machine.specs.Content.{is_kept}
use Rattle.pgs_sessions.specs.declared.changes.Changes.{Changes}
use Rattle.pgs_sessions.specs.Changes.{last_in, IsSame}
use Rattle.pgs_store.specs.State.{GuardState}
use Rattle.pgs_violation.specs.declared.rejection.Rejection.{Rejection}
use Rattle.pgs_violation.specs.Decision.{decide}
use Rattle.pgs_violation.specs.Violations.{verdict}

-- accepted: the guard has the next graph and one commit more, and each element that it changed has that commit's number
pub record IsDone (old new : GuardState) (before after : Changes) (reply : Reply) (next : Graph) : Type 0 where
  pub replied : reply ≡ Committed (old.commits + 1)
  pub guard : new ≡ record old { graph = next; commits = old.commits + 1 }
  pub numbers : (elem : Elem) → last_in after elem ≡ if is_kept old.graph next elem then last_in before elem else Some (old.commits + 1)

-- rejected: nothing changed
pub record IsRefused (old new : GuardState) (before after : Changes) (reply : Reply) (rejection : Rejection) : Type 0 where
  pub replied : reply ≡ Rejected rejection
  pub guard : new ≡ old
  pub numbers : IsSame before after

abbrev pub Follows : GuardState → GuardState → Changes → Changes → Reply → Result Graph Rejection → Type 0
Follows old new before after reply (Ok next) = IsDone old new before after reply next
Follows old new before after reply (Err rejection) = IsRefused old new before after reply rejection

-- a reply is that of the decision; after want of memory nothing changed
abbrev pub Decides : Result Reply Memory → GuardState → GuardState → Changes → Changes → Txn → Type 0
Decides (Ok reply) old new before after txn = Follows old new before after reply (decide old.limits (verdict old.schema) old.graph txn)
Decides (Err memory) old new before after txn = (new ≡ old) × IsSame before after
