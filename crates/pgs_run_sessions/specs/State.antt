-- What contracts see of a run between two event lines, and its sessions in brief.
use Rattle.std.specs.Prelude.{ℕ, Bool}
use Rattle.pgs_run_input.specs.Session.{standard}
use Rattle.pgs_run_sessions.specs.EventLines.{Stepped, Standing}
use Rattle.pgs_run_sessions.specs.Told.{Sessions}
use Rattle.pgs_sessions.specs.State.{SessionsState, deciding, summary_in}
use Rattle.pgs_sessions.specs.Summary as brief
use Rattle.pgs_sessions.specs.Summary.{Summary, Brought, summary_of}
use Rattle.pgs_sessions_machine.specs.Machine.{start}
use Rattle.pgs_syntax.specs.declared.resolved.Resolved.{Resolved}

-- the sessions, how many lines are numbered so far, and whether one was refused
pub record EventLinesState : Type 0 where
  pub sessions : SessionsState
  pub number : ℕ
  pub refused : Bool

abbrev pub schema_in : EventLinesState → Resolved
schema_in s = s.sessions.guard.schema

-- where it stands, its sessions in brief
abbrev pub standing_in : EventLinesState → Standing Summary
standing_in s = record { number = s.number; refused = s.refused; state = summary_in s.sessions }

-- sessions in brief, under the standard limits
abbrev pub brought : Brought → Stepped Summary
brought b = record { reply = b.reply; state = b.summary }

abbrev pub brief_sessions : Sessions Summary
brief_sessions = record { begin = summary_of start; step = λ schema s event. brought (brief.step (deciding schema standard) s event) }
