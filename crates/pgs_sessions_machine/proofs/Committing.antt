-- The latest graph is the one after the committed transactions.
use Rattle.std.proofs.Common.{◌≡◌, ℕ, Bool, true, false, List, [], ◌∷◌, ◌++◌, length, Option, Some, None, Result, Ok, Err, refl, sym, ap, ◌∙◌}
use Rattle.std.specs.Prelude.{if◌then◌else◌, nat_le}
use Rattle.pgs_base.specs.declared.element.Elem.{Elem}
use Rattle.pgs_base.specs.Graph.{Graph}
use Rattle.pgs_graph.specs.declared.operation.Txn.{Txn}
use Rattle.pgs_violation.specs.declared.rejection.Rejection.{Rejection}
use Rattle.pgs_sessions_machine.specs.declared.event.Event.{Event}
use Rattle.pgs_sessions_machine.specs.declared.event.Event.TheVariants.{Begin, Read, Stage, Commit, Abort}
use Rattle.pgs_sessions_machine.specs.declared.event.Reply.TheVariants.{Began, TooManySessions}
use Rattle.pgs_sessions_machine.specs.Commits.{is_committed, staged_by, committed_txns, going_on, accepted_all, IsOfCommits}
use Rattle.pgs_sessions_machine.specs.Machine.{Session, State, Outcome, start, session_at, with_session, without_session, last_of, least_after, watched, decided, committed, number_of, step_at, step, state_after}

module _ (decision : Graph → Txn → Result Graph Rejection) (rest : List Txn) where
  -- an event adds to the transactions exactly what leads to the graph after it
  abbrev Leads : State → Option Session → Outcome → Type 0
  Leads state found outcome =
      accepted_all decision state.latest ((if is_committed outcome.reply then staged_by found else []) ++ rest) ≡ accepted_all decision outcome.state.latest rest

  of_decision : (state : State) (session : Session) (result : Result Graph Rejection) → decision state.latest (record { ops = session.staged }) ≡ result →
      (out : State) → out.latest ≡ state.latest → Leads state (Some session) (decided out result)
  of_decision state session (Ok next) is out same = ap (λ (r : Result Graph Rejection). going_on r (λ next. accepted_all decision next rest)) is
  of_decision state session (Err rejection) is out same = ap (λ (g : Graph). accepted_all decision g rest) (sym same)

  of_commit : (state : State) (number : ℕ) (session : Session) (change : Option (Elem × ℕ)) → Leads state (Some session) (committed decision (without_session state number) session change)
  of_commit state number session None = of_decision state session (decision state.latest (record { ops = session.staged })) refl (without_session state number) refl
  of_commit state number session (Some change) = refl

  of_begin : (state : State) (number : ℕ) (b : Bool) →
      Leads state None (if b then record { reply = TooManySessions; state = state }
      else record { reply = Began; state = with_session state number (record { began = length state.earlier; read = []; staged = [] }) })
  of_begin state number true = refl
  of_begin state number false = refl

  of_event : (state : State) (event : Event) (found : Option Session) → Leads state found (step_at decision state event found)
  of_event state (Begin number) None = of_begin state number (nat_le 1000 (length state.sessions))
  of_event state (Read number elem) None = refl
  of_event state (Stage number txn) None = refl
  of_event state (Commit number) None = refl
  of_event state (Abort number) None = refl
  of_event state (Begin number) (Some session) = refl
  of_event state (Read number elem) (Some session) = refl
  of_event state (Stage number txn) (Some session) = refl
  of_event state (Commit number) (Some session) = of_commit state number session (least_after (last_of state) session.began (watched session))
  of_event state (Abort number) (Some session) = refl

leads : (decision : Graph → Txn → Result Graph Rejection) (events : List Event) (state : State) →
    accepted_all decision state.latest (committed_txns decision state events) ≡ Some (state_after decision state events).latest
leads decision [] state = refl
leads decision (event ∷ events) state =
    of_event decision (committed_txns decision (step decision state event).state events) state event (session_at state (number_of event))
    ∙ leads decision events (step decision state event).state

pub of_commits : (decision : Graph → Txn → Result Graph Rejection) → IsOfCommits decision
of_commits decision events = leads decision events start
