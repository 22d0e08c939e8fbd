-- The transactions that were committed during events, in order, and the graph after transactions that are all accepted.
use Rattle.std.specs.Prelude.{◌≡◌, Bool, true, false, List, [], ◌∷◌, ◌++◌, Option, Some, None, Result, Ok, Err, if◌then◌else◌}
use Rattle.pgs_base.specs.Graph.{Graph, empty_graph}
use Rattle.pgs_graph.specs.declared.operation.Txn.{Txn}
use Rattle.pgs_violation.specs.declared.rejection.Rejection.{Rejection}
use Rattle.pgs_sessions_machine.specs.declared.event.Event.{Event}
use Rattle.pgs_sessions_machine.specs.declared.event.Reply.{Reply}
use Rattle.pgs_sessions_machine.specs.declared.event.Reply.TheVariants.{Began, Content, Staged, Committed, Aborted, Rejected, AlreadyOpen, NoSession, Stale, TooManySessions}
use Rattle.pgs_sessions_machine.specs.Machine.{Session, State, start, session_at, number_of, step, state_after}

abbrev pub is_committed : Reply → Bool
is_committed Began = false
is_committed (Content content) = false
is_committed (Staged count) = false
is_committed (Committed commit) = true
is_committed Aborted = false
is_committed (Rejected rejection) = false
is_committed AlreadyOpen = false
is_committed NoSession = false
is_committed (Stale elem commit) = false
is_committed TooManySessions = false

-- what a session staged, as one transaction
abbrev pub staged_by : Option Session → List Txn
staged_by None = []
staged_by (Some session) = record { ops = session.staged } ∷ []

module _ (decision : Graph → Txn → Result Graph Rejection) where
  -- what sessions staged that committed during events
  abbrev pub committed_txns : State → List Event → List Txn
  committed_txns state [] = []
  committed_txns state (event ∷ events) =
      (if is_committed (step decision state event).reply then staged_by (session_at state (number_of event)) else [])
      ++ committed_txns (step decision state event).state events

-- what comes after a decision: the next graph, where it was accepted
abbrev pub going_on : Result Graph Rejection → (Graph → Option Graph) → Option Graph
going_on (Ok next) rest = rest next
going_on (Err rejection) rest = None

module _ (decision : Graph → Txn → Result Graph Rejection) where
  -- the graph after transactions, each decided on the one before, where all are accepted
  abbrev pub accepted_all : Graph → List Txn → Option Graph
  accepted_all g [] = Some g
  accepted_all g (txn ∷ txns) = going_on (decision g txn) (λ next. accepted_all next txns)

-- the latest graph is the one after the committed transactions, in the order of their commits, each of which is accepted
abbrev pub IsOfCommits : (Graph → Txn → Result Graph Rejection) → Type 0
IsOfCommits decision = (events : List Event) →
    accepted_all decision empty_graph (committed_txns decision start events) ≡ Some (state_after decision start events).latest
