-- When a session runs alone at an event, and that each that ends with a decision has the replies of that run.
use Rattle.std.specs.Prelude.{◌≡◌, ℕ, ◌==◌, Bool, true, false, List, [], ◌∷◌, ◌++◌, Result, filter, not, if◌then◌else◌}
use Rattle.std.specs.List.{list_all}
use Rattle.pgs_base.specs.Graph.{Graph}
use Rattle.pgs_graph.specs.declared.operation.Txn.{Txn}
use Rattle.pgs_violation.specs.declared.rejection.Rejection.{Rejection}
use Rattle.pgs_sessions_machine.specs.declared.event.Event.{Event}
use Rattle.pgs_sessions_machine.specs.declared.event.Event.TheVariants.{Begin, Read, Stage, Commit, Abort}
use Rattle.pgs_sessions_machine.specs.declared.event.Reply.{Reply}
use Rattle.pgs_sessions_machine.specs.declared.event.Reply.TheVariants.{Began, Content, Staged, Committed, Aborted, Rejected, AlreadyOpen, NoSession, Stale, TooManySessions}
use Rattle.pgs_sessions_machine.specs.Machine.{State, Outcome, start, without_session, step, replies, state_after}

-- whether an event is a read or a stage of the session of a number
abbrev pub is_own : ℕ → Event → Bool
is_own number (Begin session) = false
is_own number (Read session elem) = session == number
is_own number (Stage session txn) = session == number
is_own number (Commit session) = false
is_own number (Abort session) = false

-- whether an event leaves the session of a number open
abbrev pub leaves_open : ℕ → Event → Bool
leaves_open number (Begin session) = true
leaves_open number (Read session elem) = true
leaves_open number (Stage session txn) = true
leaves_open number (Commit session) = not (session == number)
leaves_open number (Abort session) = not (session == number)

-- whether a commit was decided
abbrev pub is_decision : Reply → Bool
is_decision Began = false
is_decision (Content content) = false
is_decision (Staged count) = false
is_decision (Committed commit) = true
is_decision Aborted = false
is_decision (Rejected rejection) = true
is_decision AlreadyOpen = false
is_decision NoSession = false
is_decision (Stale elem commit) = false
is_decision TooManySessions = false

module _ (decision : Graph → Txn → Result Graph Rejection) where
  -- the replies to the reads and stages of the session of a number
  abbrev pub own_replies : ℕ → State → List Event → List Reply
  own_replies number state [] = []
  own_replies number state (event ∷ events) =
      if is_own number event then (step decision state event).reply ∷ own_replies number (step decision state event).state events
      else own_replies number (step decision state event).state events

  -- The replies of a session that runs alone at an event: from the state before it, with the session taken out, it begins, does its
  -- reads and stages, and then that event.
  abbrev pub alone : ℕ → State → List Event → Event → List Reply
  alone number state own event = replies decision (without_session state number) (Begin number ∷ own ++ event ∷ [])

  -- After some events a session begins, during others it stays open, and then its commit is decided: its replies are those of running
  -- alone at its commit.
  abbrev pub RunsAsAlone : Type 0
  RunsAsAlone = (before during : List Event) (number : ℕ) →
      let begun : Outcome = step decision (state_after decision start before) (Begin number) in
      let state : State = state_after decision begun.state during in
      let reply : Reply = (step decision state (Commit number)).reply in
      begun.reply ≡ Began → list_all (leaves_open number) during ≡ true → is_decision reply ≡ true →
      Began ∷ own_replies number begun.state during ++ reply ∷ []
      ≡ alone number state (filter (is_own number) during) (Commit number)
