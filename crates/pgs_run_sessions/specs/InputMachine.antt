-- The run as a machine over lines, its sessions in brief.
use Rattle.std.specs.Prelude.{◌<◌, ◌^◌, ℕ, ◌+◌, true, List, [], Result, Ok, Err, if◌then◌else◌}
use Rattle.pgs_run_lines.specs.Input.{front_of}
use Rattle.pgs_run_lines.specs.Machine.{Machine, RunState, Told, Going, Ended}
use Rattle.pgs_run_lines.specs.Telling.{Teller, telling}
use Rattle.pgs_command.specs.declared.status.Status.{Status}
use Rattle.pgs_command.specs.declared.status.Status.TheVariants as statuses
use Rattle.pgs_run_input.specs.Answers.{schema_answer}
use Rattle.pgs_run_input.specs.Input.{is_separator}
use Rattle.pgs_run_input.specs.Judged.{pieces_of_schema}
use Rattle.pgs_run_input.specs.Part.{Part, with_line, no_part}
use Rattle.pgs_run_sessions.specs.declared.input_part.InputPart.{InputPart}
use Rattle.pgs_run_sessions.specs.declared.input_part.InputPart.TheVariants as parts
use Rattle.pgs_run_sessions.specs.EventLines.{Standing, first, after_line, pieces_of_line}
use Rattle.pgs_run_sessions.specs.State.{schema_in, standing_in, brief_sessions}
use Rattle.pgs_run_sessions.specs.Told.{status_after, told_schema}
use Rattle.pgs_sessions.specs.Summary.{Summary}
use Rattle.pgs_syntax.specs.declared.resolved.Resolved.{Resolved}

-- the most bytes of a line as it comes: those of a line, and a carriage return
abbrev pub line_limit : ℕ
line_limit = 1_048_577

-- as many bytes of a line as it may have, and one more
abbrev pub line_front : List ℕ → List ℕ
line_front line = front_of line_limit line

-- the schema part goes on, the event lines under a schema go on, or the schema was refused
pub data Stand : Type 0 where
  Schema : Part → Stand
  Lines : Resolved → Standing Summary → Stand
  Refused : Stand

abbrev pub stand_of : InputPart → Stand
stand_of (parts.Schema part) = Schema part
stand_of (parts.Lines s) = Lines (schema_in s) (standing_in s)
stand_of parts.Refused = Refused

-- after the judgement of a schema text
abbrev pub after_schema : Result Resolved (List ℕ) → Stand
after_schema (Ok schema) = Lines schema (first brief_sessions.begin)
after_schema (Err text) = Refused

-- after one more line, and what it tells
abbrev pub after_end : Stand → List ℕ → Stand
after_end (Schema part) line = if is_separator line then after_schema (schema_answer part.text) else Schema (with_line part line)
after_end (Lines schema s) line = Lines schema (after_line (brief_sessions.step schema) s line)
after_end Refused line = Refused

abbrev pub pieces_at_end : Stand → List ℕ → List (List ℕ)
pieces_at_end (Schema part) line = if is_separator line then pieces_of_schema (schema_answer part.text) else []
pieces_at_end (Lines schema s) line = pieces_of_line (brief_sessions.step schema) s line
pieces_at_end Refused line = []

-- a refused schema ends the run
abbrev pub next_of : Stand → RunState Stand Status
next_of (Schema part) = Going (Schema part)
next_of (Lines schema s) = Going (Lines schema s)
next_of Refused = Ended statuses.SchemaRefused

-- what is told after the last line: without a separator all is the schema text
abbrev pub told_after : Stand → Told Status
told_after (Schema part) = told_schema brief_sessions true (schema_answer part.text) []
told_after (Lines schema s) = record { pieces = []; status = status_after s.refused }
told_after Refused = record { pieces = []; status = statuses.SchemaRefused }

-- lines and commits that can be counted so many further
abbrev pub HasRoom : ℕ → Stand → Type 0
HasRoom lines (Schema part) = lines < 2 ^ 64
HasRoom lines (Lines schema s) = (s.number + lines < 2 ^ 64) × (s.state.commits + lines < 2 ^ 64)
HasRoom lines Refused = Unit {0}

abbrev pub input_teller : Teller Status
input_teller = record {
  State = Stand;
  after = after_end;
  pieces = pieces_at_end;
  next = next_of;
  told = told_after;
  cut = statuses.InputTooLong;
  HasRoom = HasRoom;
}

abbrev pub input_machine : Machine Status
input_machine = telling input_teller

-- before the first line
abbrev pub first_stand : Stand
first_stand = Schema no_part
