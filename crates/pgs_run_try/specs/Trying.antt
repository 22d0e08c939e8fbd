-- The commands `try` and `validate` as one machine over lines.
use Rattle.std.specs.Prelude.{◌<◌, ◌^◌, ℕ, ◌+◌, true, List, [], Result, Ok, Err, if◌then◌else◌}
use Rattle.pgs_run_lines.specs.Machine.{Machine, RunState, Told, Going, Ended}
use Rattle.pgs_run_lines.specs.Telling.{Teller, telling}
use Rattle.pgs_syntax.specs.declared.resolved.Resolved.{Resolved}
use Rattle.pgs_command.specs.declared.status.Status.{Status}
use Rattle.pgs_command.specs.declared.status.Status.TheVariants as statuses
use Rattle.pgs_run_input.specs.Answers.{schema_answer}
use Rattle.pgs_run_input.specs.Input.{is_separator}
use Rattle.pgs_run_input.specs.Judged.{pieces_of_schema}
use Rattle.pgs_run_input.specs.Part.{with_line, no_part}
use Rattle.pgs_run_try.specs.declared.judging.Judging.{Judging}
use Rattle.pgs_run_try.specs.declared.phase.Phase.{Phase}
use Rattle.pgs_run_try.specs.declared.phase.Phase.TheVariants.{Schema, Lines, Refused}
use Rattle.pgs_run_try.specs.State.{session_after, session_pieces}
use Rattle.pgs_run_try.specs.Told.{start, told_end, told_schema}

-- the phase after the judgement of a schema text
abbrev pub after_schema : Judging → Result Resolved (List ℕ) → Phase
after_schema judging (Ok schema) = Lines (record { judging = judging; schema = schema; standing = start })
after_schema judging (Err text) = Refused

-- the phase after one more line, and what it tells
abbrev pub after_end : Phase → List ℕ → Phase
after_end (Schema judging part) line =
    if is_separator line then after_schema judging (schema_answer part.text) else Schema judging (with_line part line)
after_end (Lines s) line = Lines (session_after s line)
after_end Refused line = Refused

abbrev pub pieces_at_end : Phase → List ℕ → List (List ℕ)
pieces_at_end (Schema judging part) line = if is_separator line then pieces_of_schema (schema_answer part.text) else []
pieces_at_end (Lines s) line = session_pieces s line
pieces_at_end Refused line = []

-- a refused schema ends the run
abbrev pub next_of : Phase → RunState Phase Status
next_of (Schema judging part) = Going (Schema judging part)
next_of (Lines s) = Going (Lines s)
next_of Refused = Ended statuses.SchemaRefused

-- what a phase tells after the last line: without a separator all is the schema text
abbrev pub told_after : Phase → Told Status
told_after (Schema judging part) = told_schema judging true (schema_answer part.text) []
told_after (Lines s) = told_end s.judging s.schema s.standing
told_after Refused = record { pieces = []; status = statuses.SchemaRefused }

-- lines and commits that can be counted so many further
abbrev pub HasRoom : ℕ → Phase → Type 0
HasRoom lines (Schema judging part) = lines < 2 ^ 64
HasRoom lines (Lines s) = (s.standing.number + lines < 2 ^ 64) × (s.standing.commits + lines < 2 ^ 64)
HasRoom lines Refused = Unit {0}

abbrev pub try_teller : Teller Status
try_teller = record {
  State = Phase;
  after = after_end;
  pieces = pieces_at_end;
  next = next_of;
  told = told_after;
  cut = statuses.InputTooLong;
  HasRoom = HasRoom;
}

abbrev pub trying : Machine Status
trying = telling try_teller

-- before the first line
abbrev pub first_phase : Judging → Phase
first_phase judging = Schema judging no_part
