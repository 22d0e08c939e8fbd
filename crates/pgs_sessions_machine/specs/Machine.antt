-- The machine of sessions over a list of events. How a transaction is decided on a graph is a parameter.
use Rattle.std.specs.Prelude.{ℕ, ◌+◌, List, [], ◌∷◌, ◌++◌, length, nat_le, nat_lt, Option, Some, None, Result, Ok, Err, flat_map, if◌then◌else◌}
use Rattle.std.specs.Ordering.{nat_cmp, is_gt}
use Rattle.std.specs.BTreeMap.{is_at, insert_entry}
use Rattle.std.specs.BTreeSet.{insert_key}
use Rattle.std.specs.Map.{lookup, remove_entry}
use Rattle.pgs_base.specs.declared.element.Elem.{Elem}
use Rattle.pgs_base.specs.declared.element.Elem.TheVariants.{Node, Edge}
use Rattle.pgs_base.specs.Graph.{Graph, empty_graph}
use Rattle.pgs_base.specs.Order.{elem_cmp}
use Rattle.pgs_graph.specs.declared.operation.Op.{Op}
use Rattle.pgs_graph.specs.declared.operation.Op.TheVariants.{AddNode, AddEdge, RemoveNode, DetachNode, RemoveEdge, SetNode, UnsetNode, LabelNode, UnlabelNode, SetEdge, UnsetEdge, LabelEdge, UnlabelEdge}
use Rattle.pgs_graph.specs.declared.operation.Txn.{Txn}
use Rattle.pgs_violation.specs.declared.rejection.Rejection.{Rejection}
use Rattle.pgs_sessions_machine.specs.declared.event.Event.{Event}
use Rattle.pgs_sessions_machine.specs.declared.event.Event.TheVariants.{Begin, Read, Stage, Commit, Abort}
use Rattle.pgs_sessions_machine.specs.declared.event.Reply.{Reply}
use Rattle.pgs_sessions_machine.specs.declared.event.Reply.TheVariants.{Began, Content, Staged, Committed, Aborted, Rejected, AlreadyOpen, NoSession, Stale, TooManySessions}
use Rattle.pgs_sessions_machine.specs.Content.{content_of, last_change}

-- an open session: how many commits there were at its Begin, the elements that it read, ascending, and its staged operations
pub record Session : Type 0 where
  pub began : ℕ
  pub read : List Elem
  pub staged : List Op

-- the graph after the last commit, those before it, the latest first and the empty one last, and the open sessions by number
pub record State : Type 0 where
  pub latest : Graph
  pub earlier : List Graph
  pub sessions : List (ℕ × Session)

-- what an event brings: its reply, and the state after it
pub record Outcome : Type 0 where
  pub reply : Reply
  pub state : State

-- the empty graph, and no session
abbrev pub start : State
start = record { latest = empty_graph; earlier = []; sessions = [] }

-- the open session of a number
abbrev pub session_at : State → ℕ → Option Session
session_at state number = lookup (is_at (nat_cmp number)) state.sessions

abbrev pub with_session : State → ℕ → Session → State
with_session state number session = record state { sessions = insert_entry nat_cmp state.sessions number session }

abbrev pub without_session : State → ℕ → State
without_session state number = record state { sessions = remove_entry (is_at (nat_cmp number)) state.sessions }

-- the elements that an operation names: its own, and the ends of an edge that it adds
abbrev pub named : Op → List Elem
named (AddNode id labels props) = Node id ∷ []
named (AddEdge id source target labels props) = Edge id ∷ Node source ∷ Node target ∷ []
named (RemoveNode id) = Node id ∷ []
named (DetachNode id) = Node id ∷ []
named (RemoveEdge id) = Edge id ∷ []
named (SetNode id key value) = Node id ∷ []
named (UnsetNode id key) = Node id ∷ []
named (LabelNode id label) = Node id ∷ []
named (UnlabelNode id label) = Node id ∷ []
named (SetEdge id key value) = Edge id ∷ []
named (UnsetEdge id key) = Edge id ∷ []
named (LabelEdge id label) = Edge id ∷ []
named (UnlabelEdge id label) = Edge id ∷ []

-- the elements that a session read or that its staged operations name
abbrev pub watched : Session → List Elem
watched session = session.read ++ flat_map named session.staged

-- a commit, where it comes after so many others
abbrev pub if_after : ℕ → Option ℕ → Option ℕ
if_after began None = None
if_after began (Some commit) = if nat_lt began commit then Some commit else None

-- a change of an element, or another change where that is of a lesser element
abbrev pub lesser : Elem × ℕ → Option (Elem × ℕ) → Elem × ℕ
lesser change None = change
lesser change (Some other) = if is_gt (elem_cmp change.0 other.0) then other else change

-- the change of an element, where there is one, or another change where that is of a lesser element
abbrev pub least_of : Elem → Option ℕ → Option (Elem × ℕ) → Option (Elem × ℕ)
least_of elem None rest = rest
least_of elem (Some commit) rest = Some (lesser (elem, commit) rest)

-- by the last commit that changed each element: the least of some elements that was changed after so many commits, with that commit
abbrev pub least_after : (Elem → Option ℕ) → ℕ → List Elem → Option (Elem × ℕ)
least_after last began [] = None
least_after last began (elem ∷ elems) = least_of elem (if_after began (last elem)) (least_after last began elems)

-- the last commit that changed an element
abbrev pub last_of : State → Elem → Option ℕ
last_of state elem = last_change elem state.latest state.earlier

-- what a decision brings in a state
abbrev pub decided : State → Result Graph Rejection → Outcome
decided state (Ok graph) = record {
  reply = Committed (length state.earlier + 1);
  state = record state { latest = graph; earlier = state.latest ∷ state.earlier };
}
decided state (Err rejection) = record { reply = Rejected rejection; state = state }

module _ (decision : Graph → Txn → Result Graph Rejection) where
  -- what the commit of a session brings: nothing is done where an element that it watched was changed since its Begin
  abbrev pub committed : State → Session → Option (Elem × ℕ) → Outcome
  committed state session (Some change) = record { reply = Stale change.0 change.1; state = state }
  committed state session None = decided state (decision state.latest (record { ops = session.staged }))

  -- what an event brings to the session of a number that is open
  abbrev pub open_step : State → ℕ → Session → Event → Outcome
  open_step state number session (Begin _) = record { reply = AlreadyOpen; state = state }
  open_step state number session (Read _ elem) = record {
    reply = Content (content_of state.latest elem);
    state = with_session state number (record session { read = insert_key elem_cmp session.read elem });
  }
  open_step state number session (Stage _ txn) = record {
    reply = Staged (length (session.staged ++ txn.ops));
    state = with_session state number (record session { staged = session.staged ++ txn.ops });
  }
  open_step state number session (Commit _) =
      committed (without_session state number) session (least_after (last_of state) session.began (watched session))
  open_step state number session (Abort _) = record { reply = Aborted; state = without_session state number }

-- the Begin of a session that isn't open
abbrev pub begun : State → ℕ → Outcome
begun state number =
    if nat_le 1000 (length state.sessions) then record { reply = TooManySessions; state = state }
    else record {
      reply = Began;
      state = with_session state number (record { began = length state.earlier; read = []; staged = [] });
    }

-- what an event brings to the session of a number that isn't open
abbrev pub closed_step : State → Event → Outcome
closed_step state (Begin number) = begun state number
closed_step state (Read number elem) = record { reply = NoSession; state = state }
closed_step state (Stage number txn) = record { reply = NoSession; state = state }
closed_step state (Commit number) = record { reply = NoSession; state = state }
closed_step state (Abort number) = record { reply = NoSession; state = state }

-- the session of an event
abbrev pub number_of : Event → ℕ
number_of (Begin number) = number
number_of (Read number elem) = number
number_of (Stage number txn) = number
number_of (Commit number) = number
number_of (Abort number) = number

module _ (decision : Graph → Txn → Result Graph Rejection) where
  abbrev pub step_at : State → Event → Option Session → Outcome
  step_at state event None = closed_step state event
  step_at state event (Some session) = open_step decision state (number_of event) session event

  -- what an event brings
  abbrev pub step : State → Event → Outcome
  step state event = step_at state event (session_at state (number_of event))

  -- the replies to events, and the state after them
  abbrev pub replies : State → List Event → List Reply
  replies state [] = []
  replies state (event ∷ events) = (step state event).reply ∷ replies (step state event).state events

  abbrev pub state_after : State → List Event → State
  state_after state [] = state
  state_after state (event ∷ events) = state_after (step state event).state events
