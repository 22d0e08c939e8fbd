-- What contracts see of sessions, when they stand for a state of the machine, and what one event leaves.
use Rattle.std.specs.Prelude.{◌≡◌, ℕ, List, length, Option, Result, Ok, Err}
use Rattle.pgs_base.specs.declared.element.NodeId.{NodeId}
use Rattle.pgs_base.specs.declared.element.EdgeId.{EdgeId}
use Rattle.pgs_base.specs.declared.element.Elem.{Elem}
use Rattle.pgs_base.specs.declared.limits.Limits.{Limits}
use Rattle.pgs_base.specs.declared.memory.Memory.{Memory}
use Rattle.pgs_base.specs.Graph.{Graph}
use Rattle.pgs_graph.specs.declared.operation.Txn.{Txn}
use Rattle.pgs_sessions_machine.specs.declared.event.Event.{Event}
use Rattle.pgs_sessions_machine.specs.declared.event.Reply.{Reply}
use Rattle.pgs_sessions_machine.specs.Content.{last_change}
use Rattle.pgs_sessions_machine.specs.Machine.{Session, State, Outcome, step}
use Rattle.pgs_sessions.specs.Changes.{number_in}
use Rattle.pgs_sessions.specs.Summary as brief
use Rattle.pgs_sessions.specs.Summary.{Summary, Brought}
use Rattle.pgs_store.specs.State.{GuardState}
use Rattle.pgs_syntax.specs.declared.resolved.Resolved.{Resolved}
use Rattle.pgs_violation.specs.declared.rejection.Rejection.{Rejection}
use Rattle.pgs_violation.specs.Decision.{decide}
use Rattle.pgs_violation.specs.Violations.{verdict}

-- a guard, the numbers that are kept for nodes and for edges, and the open sessions by number
pub record SessionsState : Type 0 where
  pub guard : GuardState
  pub nodes : List (NodeId × ℕ)
  pub edges : List (EdgeId × ℕ)
  pub sessions : List (ℕ × Session)

-- the number that is kept for an element
abbrev pub kept_number : SessionsState → Elem → Option ℕ
kept_number value elem = number_in value.nodes value.edges elem

-- how a schema and limits decide
abbrev pub deciding : Resolved → Limits → Graph → Txn → Result Graph Rejection
deciding schema limits = decide limits (verdict schema)

-- what sessions say of the machine's state, in brief
abbrev pub summary_in : SessionsState → Summary
summary_in value = record { graph = value.guard.graph; commits = value.guard.commits; last = kept_number value; sessions = value.sessions }

-- an event brought this reply and left these sessions; schema and limits stay
pub record IsTaken (event : Event) (old : SessionsState) (reply : Reply) (new : SessionsState) : Type 0 where
  pub schema : new.guard.schema ≡ old.guard.schema
  pub limits : new.guard.limits ≡ old.guard.limits
  pub brought : brief.step (deciding old.guard.schema old.guard.limits) (summary_in old) event ≡ record { reply = reply; summary = summary_in new }

-- what an event answers and leaves, in brief; after want of memory all is as before
abbrev pub Takes : Event → SessionsState → Result Reply Memory → SessionsState → Type 0
Takes event old (Ok reply) new = IsTaken event old reply new
Takes event old (Err memory) new = new ≡ old

-- Sessions stand for a state of the machine of a schema and limits: the guard has that schema and these limits; its graph is the
-- state's latest one; it counts the commits that led there; the number that is kept for an element is the last commit that changed
-- it, and none is kept where no commit did; and the open sessions are the state's.
pub record StandsFor (resolved : Resolved) (bounds : Limits) (value : SessionsState) (state : State) : Type 0 where
  pub schema : value.guard.schema ≡ resolved
  pub limits : value.guard.limits ≡ bounds
  pub graph : value.guard.graph ≡ state.latest
  pub commits : value.guard.commits ≡ length state.earlier
  pub numbers : (elem : Elem) → kept_number value elem ≡ last_change elem state.latest state.earlier
  pub sessions : value.sessions ≡ state.sessions

-- a reply and what is left are what the machine brings
pub record Brings (schema : Resolved) (limits : Limits) (reply : Reply) (value : SessionsState) (outcome : Outcome) : Type 0 where
  pub replied : reply ≡ outcome.reply
  pub stands : StandsFor schema limits value outcome.state

-- what an event answers and leaves: by the machine, for every state that the sessions stand for; after want of memory all is as before
abbrev pub Answers : Event → SessionsState → Result Reply Memory → SessionsState → Type 0
Answers event old (Ok reply) new = (schema : Resolved) (limits : Limits) (state : State) → StandsFor schema limits old state →
    Brings schema limits reply new (step (deciding schema limits) state event)
Answers event old (Err memory) new = new ≡ old
