-- `try` and `apply` of the check as one machine over lines: with causes, where it tells; and what decides, where it tells nothing.
use Rattle.std.specs.Prelude.{◌<◌, ◌^◌, ℕ, ◌+◌, List, [], Result, Ok, Err, if◌then◌else◌}
use Rattle.pgs_run_lines.specs.Machine.{Machine, RunState, Going, Ended}
use Rattle.pgs_run_lines.specs.May.{MayPut}
use Rattle.pgs_run_lines.specs.Telling.{Teller, telling}
use Rattle.pgs_syntax.specs.declared.resolved.Resolved.{Resolved}
use Rattle.pgs_command.specs.declared.status.Status.{Status}
use Rattle.pgs_command.specs.declared.status.Status.TheVariants as statuses
use Rattle.pgs_run_input.specs.Answers.{schema_answer}
use Rattle.pgs_run_input.specs.Input.{is_separator}
use Rattle.pgs_run_input.specs.Judged.{pieces_behind}
use Rattle.pgs_run_input.specs.Part.{with_line, no_part}
use Rattle.pgs_run_check_try.specs.declared.phase.Phase.{Phase}
use Rattle.pgs_run_check_try.specs.declared.phase.Phase.TheVariants.{Schema, Lines, Refused}
use Rattle.pgs_run_check_try.specs.State.{session_after, session_pieces}
use Rattle.pgs_run_check_try.specs.Told.{Causes, start, status_after}

-- the phase after the judgement of a schema text
abbrev pub after_schema : (text : List ℕ) → Result Resolved (List ℕ) → Phase
after_schema text (Ok schema) = Lines (record { text = text; schema = schema; standing = start })
after_schema text (Err refusal) = Refused

abbrev pub after_text : List ℕ → Phase
after_text text = after_schema text (schema_answer text)

-- the phase after one more line, and what it tells
abbrev pub after_end : Phase → List ℕ → Phase
after_end (Schema part) line = if is_separator line then after_text part.text else Schema (with_line part line)
after_end (Lines s) line = Lines (session_after s line)
after_end Refused line = Refused

abbrev pub pieces_at_end : Causes → Phase → List ℕ → List (List ℕ)
pieces_at_end causes (Schema part) line = if is_separator line then pieces_behind (causes 0) (schema_answer part.text) else []
pieces_at_end causes (Lines s) line = session_pieces causes s line
pieces_at_end causes Refused line = []

-- a refused schema ends the run
abbrev pub next_of : Phase → RunState Phase Status
next_of (Schema part) = Going (Schema part)
next_of (Lines s) = Going (Lines s)
next_of Refused = Ended statuses.SchemaRefused

-- the end of the input ends the schema part: without a separator all is the schema text
abbrev pub after_part : Phase → Phase
after_part (Schema part) = after_text part.text
after_part (Lines s) = Lines s
after_part Refused = Refused

abbrev pub part_pieces : Causes → Phase → List (List ℕ)
part_pieces causes (Schema part) = pieces_behind (causes 0) (schema_answer part.text)
part_pieces causes (Lines s) = []
part_pieces causes Refused = []

-- the status at the end of the input, behind the schema part
abbrev pub status_of : Phase → Status
status_of (Schema part) = statuses.Accepted
status_of (Lines s) = status_after s.standing.refused
status_of Refused = statuses.SchemaRefused

-- lines that can be counted so many further
abbrev pub HasRoom : ℕ → Phase → Type 0
HasRoom lines (Schema part) = lines < 2 ^ 64
HasRoom lines (Lines s) = s.standing.number + lines < 2 ^ 64
HasRoom lines Refused = Unit {0}

-- with causes
abbrev pub explainer : Causes → Teller Status
explainer causes = record {
  State = Phase;
  after = after_end;
  pieces = pieces_at_end causes;
  next = next_of;
  told = λ phase. record { pieces = part_pieces causes phase; status = status_of (after_part phase) };
  cut = statuses.InputTooLong;
  HasRoom = HasRoom;
}

abbrev pub explaining : Causes → Machine Status
explaining causes = telling (explainer causes)

-- what decides alone
abbrev pub deciding : Machine Status
deciding = record {
  State = Phase;
  line = λ phase line. record { pieces = []; next = next_of (after_end phase line) };
  rest = λ phase rest. record { pieces = []; status = status_of (after_part (after_end phase rest)) };
  cut = λ phase. statuses.InputTooLong;
  MayStop = MayPut;
  HasRoom = HasRoom;
}

-- before the first line of a schema text
abbrev pub first_phase : Phase
first_phase = Schema no_part
