-- What `pgsession` tells of an input within a budget: pieces of output, and a status.
use Rattle.std.specs.Prelude.{ℕ, Bool, true, false, ◌||◌, List, [], ◌∷◌, ◌++◌, length, take, Result, Ok, Err, nat_le, if◌then◌else◌}
use Rattle.std.specs.List.{list_any}
use Rattle.pgs_answer.specs.Lines.{schema_refused_line}
use Rattle.pgs_run_lines.specs.Input.{lines_of}
use Rattle.pgs_run_lines.specs.Machine.{Told}
use Rattle.pgs_command.specs.declared.status.Status.{Status}
use Rattle.pgs_command.specs.declared.status.Status.TheVariants.{Accepted, Refused, SchemaRefused, InputTooLong}
use Rattle.pgs_run_input.specs.Answers.{schema_answer}
use Rattle.pgs_run_input.specs.Input.{is_separator, schema_part, after_separator}
use Rattle.pgs_run_input.specs.Session.{standard}
use Rattle.pgs_run_sessions.specs.EventLines.{Stepped, first, after_lines, pieces_of_lines}
use Rattle.pgs_sessions.specs.State.{deciding}
use Rattle.pgs_sessions_machine.specs.declared.event.Event.{Event}
use Rattle.pgs_sessions_machine.specs.Machine as machine
use Rattle.pgs_sessions_machine.specs.Machine.{State}
use Rattle.pgs_syntax.specs.declared.resolved.Resolved.{Resolved}

-- the status after a whole input
abbrev pub status_after : Bool → Status
status_after true = Refused
status_after false = Accepted

-- lines that were all taken, and how the input ends behind them
abbrev pub with_end : Bool → List (List ℕ) → Bool → Told Status
with_end true pieces refused = record { pieces = pieces; status = status_after refused }
with_end false pieces refused = record { pieces = pieces; status = InputTooLong }

-- what sessions are under a schema: what they begin as, and what an event brings to them
pub record Sessions (S : Type 0) : Type 0 where
  pub begin : S
  pub step : Resolved → S → Event → Stepped S

module _ {S : Type 0} (sessions : Sessions S) where
  -- what a schema tells, with the lines after it
  abbrev pub told_schema : Bool → Result Resolved (List ℕ) → List (List ℕ) → Told Status
  told_schema whole (Err text) lines = record { pieces = schema_refused_line text ∷ []; status = SchemaRefused }
  told_schema whole (Ok schema) lines =
      with_end whole (pieces_of_lines (sessions.step schema) (first sessions.begin) lines)
      (after_lines (sessions.step schema) (first sessions.begin) lines).refused

  -- What lines tell. Where the input is cut, a schema part is judged only where its separator is among them.
  abbrev pub told_lines : Bool → List (List ℕ) → Told Status
  told_lines whole lines =
      if whole || list_any is_separator lines then told_schema whole (schema_answer (schema_part lines)) (after_separator lines)
      else record { pieces = []; status = InputTooLong }

  -- what an input tells that is read to its end
  abbrev pub told_whole : List ℕ → Told Status
  told_whole input = let lines = lines_of input in told_lines true (lines.ended ++ lines.rest ∷ [])

  -- what an input tells of which these are the bytes within the budget: only lines with their line feed count
  abbrev pub told_cut : List ℕ → Told Status
  told_cut input = told_lines false (lines_of input).ended

  -- what is told of an input within a budget
  unfoldable pub told_input : List ℕ → ℕ → Told Status
  told_input input budget = if nat_le budget (length input) then told_cut (take budget input) else told_whole input

-- the machine of sessions under the standard limits
abbrev pub stepped : machine.Outcome → Stepped State
stepped outcome = record { reply = outcome.reply; state = outcome.state }

abbrev pub machine_sessions : Sessions State
machine_sessions = record { begin = machine.start; step = λ schema state event. stepped (machine.step (deciding schema standard) state event) }

-- what is told of an input within a budget by the machine of sessions
abbrev pub told_sessions : List ℕ → ℕ → Told Status
told_sessions input budget = told_input machine_sessions input budget
