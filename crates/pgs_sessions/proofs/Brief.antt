-- What an event brings in brief is what it brings, in brief; so sessions that take events in brief answer as the machine.
use Rattle.std.proofs.Common.{◌≡◌, ℕ, Bool, true, false, length, Option, Some, None, Result, Ok, Err, refl, sym, ap, ◌∙◌, add-one}
use Rattle.std.specs.Prelude.{nat_le}
use Rattle.pgs_base.specs.declared.element.Elem.{Elem}
use Rattle.pgs_base.specs.declared.memory.Memory.{Memory}
use Rattle.pgs_base.specs.Graph.{Graph}
use Rattle.pgs_graph.specs.declared.operation.Txn.{Txn}
use Rattle.pgs_sessions_machine.specs.declared.event.Event.{Event}
use Rattle.pgs_sessions_machine.specs.declared.event.Event.TheVariants.{Begin, Read, Stage, Commit, Abort}
use Rattle.pgs_sessions_machine.specs.declared.event.Reply.{Reply}
use Rattle.pgs_sessions_machine.specs.Machine as machine
use Rattle.pgs_sessions_machine.specs.Machine.{Session, State, session_at, number_of, without_session}
use Rattle.pgs_sessions.specs.State.{SessionsState, deciding, summary_in, IsTaken, Takes, Answers}
use Rattle.pgs_sessions.specs.Summary.{summary_of, Brought, brought_by, decided, committed, open_step, begun, closed_step, step_at, step}
use Rattle.pgs_violation.specs.declared.rejection.Rejection.{Rejection}

decided_same : (state : State) (decision : Result Graph Rejection) → decided (summary_of state) decision ≡ brought_by (machine.decided state decision)
decided_same state (Err rejection) = refl
decided_same state (Ok graph) =
    let after : Brought = brought_by (machine.decided state (Ok graph)) in
    ap (λ (n : ℕ). record { reply = after.reply; summary = record after.summary { commits = n } }) (add-one (length state.earlier))

begun_same : (state : State) (number : ℕ) (full : Bool) → nat_le 1000 (length state.sessions) ≡ full → begun (summary_of state) number ≡ brought_by (machine.begun state number)
begun_same state number true e = rw e refl
begun_same state number false e = rw e refl

closed_same : (state : State) (event : Event) → closed_step (summary_of state) event ≡ brought_by (machine.closed_step state event)
closed_same state (Begin number) = begun_same state number (nat_le 1000 (length state.sessions)) refl
closed_same state (Read number elem) = refl
closed_same state (Stage number txn) = refl
closed_same state (Commit number) = refl
closed_same state (Abort number) = refl

module _ (decision : Graph → Txn → Result Graph Rejection) where
  committed_same : (state : State) (session : Session) (change : Option (Elem × ℕ)) →
      committed decision (summary_of state) session change ≡ brought_by (machine.committed decision state session change)
  committed_same state session (Some change) = refl
  committed_same state session None = decided_same state (decision state.latest (record { ops = session.staged }))

  open_same : (state : State) (number : ℕ) (session : Session) (event : Event) →
      open_step decision (summary_of state) number session event ≡ brought_by (machine.open_step decision state number session event)
  open_same state number session (Begin _) = refl
  open_same state number session (Read _ elem) = refl
  open_same state number session (Stage _ txn) = refl
  open_same state number session (Commit _) =
      committed_same (without_session state number) session (machine.least_after (machine.last_of state) session.began (machine.watched session))
  open_same state number session (Abort _) = refl

  step_at_same : (state : State) (event : Event) (found : Option Session) →
      step_at decision (summary_of state) event found ≡ brought_by (machine.step_at decision state event found)
  step_at_same state event None = closed_same state event
  step_at_same state event (Some session) = open_same state (number_of event) session event

  pub step_same : (state : State) (event : Event) → step decision (summary_of state) event ≡ brought_by (machine.step decision state event)
  step_same state event = step_at_same state event (session_at state (number_of event))

-- ---- of sessions

taken_answers : (event : Event) (old new : SessionsState) (reply : Reply) → IsTaken event old reply new → Answers event old (Ok reply) new
taken_answers event old new reply taken schema limits state stands = record {
  replied = ap (λ (b : Brought). b.reply) same;
  stands = record {
    schema = taken.schema ∙ stands.schema;
    limits = taken.limits ∙ stands.limits;
    graph = ap (λ (b : Brought). b.summary.graph) same;
    commits = ap (λ (b : Brought). b.summary.commits) same;
    numbers = λ elem. ap (λ (b : Brought). b.summary.last elem) same;
    sessions = ap (λ (b : Brought). b.summary.sessions) same;
  };
}
  where
    before : summary_in old ≡ summary_of state
    before = λ i. record {
      graph = stands.graph i;
      commits = stands.commits i;
      last = λ elem. stands.numbers elem i;
      sessions = stands.sessions i;
    }

    same : record { reply = reply; summary = summary_in new } ≡ brought_by (machine.step (deciding schema limits) state event)
    same =
        sym taken.brought ∙ (λ i. step (deciding (stands.schema i) (stands.limits i)) (before i) event)
        ∙ step_same (deciding schema limits) state event

-- sessions that take an event in brief answer it as the machine
pub answers : (event : Event) (old new : SessionsState) (result : Result Reply Memory) → Takes event old result new → Answers event old result new
answers event old new (Ok reply) taken = taken_answers event old new reply taken
answers event old new (Err memory) taken = taken
