-- A state of the machine in brief: of the graphs before the last one their number, and the last commit that changed each element. What an
-- event brings asks for no more of them.
use Rattle.std.specs.Prelude.{ℕ, ◌+◌, List, ◌++◌, length, nat_le, Option, Some, None, Result, Ok, Err, if◌then◌else◌}
use Rattle.std.specs.BTreeMap.{is_at, insert_entry}
use Rattle.std.specs.Map.{remove_entry}
use Rattle.std.specs.Ordering.{nat_cmp}
use Rattle.pgs_base.specs.declared.element.Elem.{Elem}
use Rattle.pgs_base.specs.Graph.{Graph}
use Rattle.pgs_graph.specs.declared.operation.Txn.{Txn}
use Rattle.pgs_sessions_machine.specs.declared.event.Event.{Event}
use Rattle.pgs_sessions_machine.specs.declared.event.Event.TheVariants.{Begin, Read, Stage, Commit, Abort}
use Rattle.pgs_sessions_machine.specs.declared.event.Reply.{Reply}
use Rattle.pgs_sessions_machine.specs.declared.event.Reply.TheVariants.{Began, Content, Staged, Committed, Aborted, Rejected, AlreadyOpen, NoSession, Stale, TooManySessions}
use Rattle.pgs_sessions_machine.specs.Content.{content_of, is_kept}
use Rattle.pgs_sessions_machine.specs.Machine.{Session, State, Outcome, last_of, least_after, watched, number_of}
use Rattle.pgs_sessions.specs.Open.{at_number, fresh, reading, staging}
use Rattle.pgs_violation.specs.declared.rejection.Rejection.{Rejection}

-- the last graph, how many commits there were, the last commit that changed each element, and the open sessions by number
pub record Summary : Type 0 where
  pub graph : Graph
  pub commits : ℕ
  pub last : Elem → Option ℕ
  pub sessions : List (ℕ × Session)

abbrev pub summary_of : State → Summary
summary_of state = record { graph = state.latest; commits = length state.earlier; last = last_of state; sessions = state.sessions }

-- what an event brings: its reply, and the state after it in brief
pub record Brought : Type 0 where
  pub reply : Reply
  pub summary : Summary

abbrev pub brought_by : Outcome → Brought
brought_by outcome = record { reply = outcome.reply; summary = summary_of outcome.state }

-- a reply, and other open sessions
abbrev pub replying : Reply → Summary → List (ℕ × Session) → Brought
replying reply s sessions = record { reply = reply; summary = record s { sessions = sessions } }

-- what a decision brings: the elements that it changed have the number of the commit
abbrev pub decided : Summary → Result Graph Rejection → Brought
decided s (Ok graph) = record {
  reply = Committed (s.commits + 1);
  summary = record s {
    graph = graph;
    commits = s.commits + 1;
    last = λ elem. if is_kept s.graph graph elem then s.last elem else Some (s.commits + 1);
  };
}
decided s (Err rejection) = record { reply = Rejected rejection; summary = s }

module _ (decision : Graph → Txn → Result Graph Rejection) where
  -- what the commit of a session brings that is closed then
  abbrev pub committed : Summary → Session → Option (Elem × ℕ) → Brought
  committed s session (Some change) = record { reply = Stale change.0 change.1; summary = s }
  committed s session None = decided s (decision s.graph (record { ops = session.staged }))

  -- what an event brings to the session of a number that is open
  abbrev pub open_step : Summary → ℕ → Session → Event → Brought
  open_step s number session (Begin _) = record { reply = AlreadyOpen; summary = s }
  open_step s number session (Read _ elem) =
      replying (Content (content_of s.graph elem)) s (insert_entry nat_cmp s.sessions number (reading elem session))
  open_step s number session (Stage _ txn) =
      replying (Staged (length (session.staged ++ txn.ops))) s (insert_entry nat_cmp s.sessions number (staging txn.ops session))
  open_step s number session (Commit _) =
      committed (record s { sessions = remove_entry (is_at (nat_cmp number)) s.sessions }) session (least_after s.last session.began (watched session))
  open_step s number session (Abort _) = replying Aborted s (remove_entry (is_at (nat_cmp number)) s.sessions)

-- the Begin of a session that isn't open
abbrev pub begun : Summary → ℕ → Brought
begun s number =
    if nat_le 1000 (length s.sessions) then record { reply = TooManySessions; summary = s }
    else replying Began s (insert_entry nat_cmp s.sessions number (fresh s.commits))

-- what an event brings to the session of a number that isn't open
abbrev pub closed_step : Summary → Event → Brought
closed_step s (Begin number) = begun s number
closed_step s (Read number elem) = record { reply = NoSession; summary = s }
closed_step s (Stage number txn) = record { reply = NoSession; summary = s }
closed_step s (Commit number) = record { reply = NoSession; summary = s }
closed_step s (Abort number) = record { reply = NoSession; summary = s }

module _ (decision : Graph → Txn → Result Graph Rejection) where
  abbrev pub step_at : Summary → Event → Option Session → Brought
  step_at s event None = closed_step s event
  step_at s event (Some session) = open_step decision s (number_of event) session event

  -- what an event brings
  abbrev pub step : Summary → Event → Brought
  step s event = step_at s event (at_number s.sessions (number_of event))
