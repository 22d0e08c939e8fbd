-- The reading of two schema texts as one machine over lines.
use Rattle.std.specs.Prelude.{ℕ, true, List, [], Result, Ok, Err, if◌then◌else◌}
use Rattle.pgs_run_lines.specs.Machine.{Machine, RunState, Told, Going, Ended}
use Rattle.pgs_run_lines.specs.Telling.{Teller, telling}
use Rattle.pgs_syntax.specs.declared.resolved.Resolved.{Resolved}
use Rattle.pgs_run_input.specs.Answers.{schema_answer}
use Rattle.pgs_run_input.specs.Input.{is_separator}
use Rattle.pgs_run_input.specs.Judged.{pieces_of_schema}
use Rattle.pgs_run_input.specs.Part.{with_line, no_part}
use Rattle.pgs_run_contain.specs.declared.ending.Ending.{Ending}
use Rattle.pgs_run_contain.specs.declared.ending.Ending.TheVariants as endings
use Rattle.pgs_run_contain.specs.declared.phase.Phase.{Phase}
use Rattle.pgs_run_contain.specs.declared.phase.Phase.TheVariants.{First, Second, Refused}
use Rattle.pgs_run_contain.specs.Names.{names_in}
use Rattle.pgs_run_contain.specs.Told.{told_first, told_second}

-- the phase after the judgement of the first text
abbrev pub after_first : (kept : List ℕ) → Result Resolved (List ℕ) → Phase
after_first kept (Ok first) = Second first (names_in kept) no_part
after_first kept (Err refusal) = Refused kept

-- the phase after one more line, and what it tells; in the second text no line is a separator
abbrev pub after_end : Phase → List ℕ → Phase
after_end (First part) line = if is_separator line then after_first part.text (schema_answer part.text) else First (with_line part line)
after_end (Second first names part) line = Second first names (with_line part line)
after_end (Refused kept) line = Refused kept

abbrev pub pieces_at_end : Phase → List ℕ → List (List ℕ)
pieces_at_end (First part) line = if is_separator line then pieces_of_schema (schema_answer part.text) else []
pieces_at_end (Second first names part) line = []
pieces_at_end (Refused kept) line = []

-- a refused first text ends the run
abbrev pub next_of : Phase → RunState Phase Ending
next_of (First part) = Going (First part)
next_of (Second first names part) = Going (Second first names part)
next_of (Refused kept) = Ended (endings.Refused kept)

-- what a phase tells after the last line: without a separator all is the first text
abbrev pub told_after : Phase → Told Ending
told_after (First part) = told_first true part.text (schema_answer part.text) []
told_after (Second first names part) = told_second first names part.text (schema_answer part.text)
told_after (Refused kept) = record { pieces = []; status = endings.Refused kept }

abbrev pub compare_teller : Teller Ending
compare_teller = record {
  State = Phase;
  after = after_end;
  pieces = pieces_at_end;
  next = next_of;
  told = told_after;
  cut = endings.Cut;
  HasRoom = λ lines phase. Unit {0};
}

abbrev pub comparing : Machine Ending
comparing = telling compare_teller

-- before the first line
abbrev pub first_phase : Phase
first_phase = First no_part
