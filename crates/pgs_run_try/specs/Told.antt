-- What the commands `try` and `validate` tell of an input within a budget: pieces of output, and a status.
use Rattle.std.specs.Prelude.{ℕ, Bool, true, false, ◌||◌, List, [], ◌∷◌, ◌++◌, length, map, take, Result, Ok, Err, nat_le, if◌then◌else◌}
use Rattle.std.specs.List.{list_any}
use Rattle.pgs_base.specs.Graph.{empty_graph}
use Rattle.pgs_run_lines.specs.Input.{lines_of}
use Rattle.pgs_run_lines.specs.Machine.{Told}
use Rattle.pgs_syntax.specs.declared.resolved.Resolved.{Resolved}
use Rattle.pgs_violation.specs.declared.violation.Violation.{Violation}
use Rattle.pgs_answer.specs.Lines.{schema_refused_line, violation_line}
use Rattle.pgs_answer.specs.Refusals.{violation_text}
use Rattle.pgs_command.specs.declared.status.Status.{Status}
use Rattle.pgs_command.specs.declared.status.Status.TheVariants.{Accepted, Refused, SchemaRefused, InputTooLong}
use Rattle.pgs_run_input.specs.Answers.{schema_answer}
use Rattle.pgs_run_input.specs.Input.{is_separator, schema_part, after_separator}
use Rattle.pgs_run_input.specs.Session.{Standing, after_lines, pieces_of_lines}
use Rattle.pgs_run_try.specs.declared.judging.Judging.{Judging}
use Rattle.pgs_run_try.specs.declared.judging.Judging.TheVariants.{EachLine, AtEnd}
use Rattle.pgs_run_try.specs.Judging.{verdict_by, telling_by, listed}

-- where a run stands before its first line
abbrev pub start : Standing
start = record { number = 0; commits = 0; refused = false; graph = empty_graph }

-- the line of a violation that is listed
unfoldable pub listed_line : Violation → List ℕ
listed_line violation = violation_line (violation_text violation)

-- the status after a whole input: whether a line was refused, and what is listed
abbrev pub status_after : Bool → List Violation → Status
status_after true found = Refused
status_after false [] = Accepted
status_after false (violation ∷ found) = Refused

-- what the end of a whole input tells: the violations that are listed, each by a line
unfoldable pub told_end : Judging → Resolved → Standing → Told Status
told_end judging schema s =
    let found = listed judging schema s.graph in
    record { pieces = map listed_line found; status = status_after s.refused found }

-- lines, and behind them the end of a whole input; where the input is cut nothing more is told
abbrev pub with_end : Bool → List (List ℕ) → Told Status → Told Status
with_end true pieces end = record { pieces = pieces ++ end.pieces; status = end.status }
with_end false pieces end = record { pieces = pieces; status = InputTooLong }

-- what a schema tells, with the lines after it
abbrev pub told_schema : Judging → Bool → Result Resolved (List ℕ) → List (List ℕ) → Told Status
told_schema judging whole (Err text) lines = record { pieces = schema_refused_line text ∷ []; status = SchemaRefused }
told_schema judging whole (Ok schema) lines =
    let verdict = verdict_by judging schema in
    with_end whole (pieces_of_lines (telling_by judging) verdict start lines) (told_end judging schema (after_lines verdict start lines))

-- What lines tell. Where the input is cut, a schema part is judged only where its separator is among them.
abbrev pub told_lines : Judging → Bool → List (List ℕ) → Told Status
told_lines judging whole lines =
    if whole || list_any is_separator lines then told_schema judging whole (schema_answer (schema_part lines)) (after_separator lines)
    else record { pieces = []; status = InputTooLong }

-- what an input tells that is read to its end
abbrev pub told_whole : Judging → List ℕ → Told Status
told_whole judging input = let lines = lines_of input in told_lines judging true (lines.ended ++ lines.rest ∷ [])

-- what an input tells of which these are the bytes within the budget: only lines with their line feed count
abbrev pub told_cut : Judging → List ℕ → Told Status
told_cut judging input = told_lines judging false (lines_of input).ended

-- what is told of an input within a budget
unfoldable pub told_judging : Judging → List ℕ → ℕ → Told Status
told_judging judging input budget =
    if nat_le budget (length input) then told_cut judging (take budget input) else told_whole judging input

-- the command `try`: each transaction is judged, and each line has a verdict line
abbrev pub told_try : List ℕ → ℕ → Told Status
told_try = told_judging EachLine

-- The command `validate`: transactions are done where they can be done within the limits, only refused lines are told, and at the end
-- of the whole input each violation of the graph has a line.
abbrev pub told_validate : List ℕ → ℕ → Told Status
told_validate = told_judging AtEnd
