-- What the two texts of an input within a budget tell: the line of a refusal, or both schemas and the names that stand in their texts. Of a text is
-- kept its front, as many bytes as a text may have, and one more: all of a schema's. It comes with a refusal.
use Rattle.std.specs.Prelude.{ℕ, Bool, true, false, ◌||◌, List, [], ◌∷◌, ◌++◌, length, take, Result, Ok, Err, nat_le, if◌then◌else◌}
use Rattle.std.specs.List.{list_any, join_with_byte}
use Rattle.pgs_run_lines.specs.Input.{lines_of}
use Rattle.pgs_run_lines.specs.Machine.{Told}
use Rattle.pgs_syntax.specs.declared.resolved.Resolved.{Resolved}
use Rattle.pgs_answer.specs.Lines.{schema_refused_line, second_refused_line}
use Rattle.pgs_command.specs.declared.status.Status.{Status}
use Rattle.pgs_command.specs.declared.status.Status.TheVariants as statuses
use Rattle.pgs_run_input.specs.Answers.{schema_answer}
use Rattle.pgs_run_input.specs.Input.{is_separator, schema_part, after_separator, text_front}
use Rattle.pgs_run_contain.specs.declared.ending.Ending.{Ending}
use Rattle.pgs_run_contain.specs.declared.ending.Ending.TheVariants.{Fit, Refused, Cut}
use Rattle.pgs_run_contain.specs.Names.{Names, names_in}

-- a text is refused, with this line
abbrev pub refused_by : (line kept : List ℕ) → Told Ending
refused_by line kept = record { pieces = line ∷ []; status = Refused kept }

-- what the second schema tells, behind the first and the names that stand in its text
abbrev pub told_second : Resolved → Names → (kept : List ℕ) → Result Resolved (List ℕ) → Told Ending
told_second first names kept (Ok second) = record { pieces = []; status = Fit first second (names ++ names_in kept) }
told_second first names kept (Err refusal) = refused_by (second_refused_line refusal) kept

-- what the first schema tells, with the text of the second, which is judged only where the input isn't cut
abbrev pub told_first : Bool → (kept : List ℕ) → Result Resolved (List ℕ) → (second : List ℕ) → Told Ending
told_first whole kept (Err refusal) second = refused_by (schema_refused_line refusal) kept
told_first true kept (Ok first) second = told_second first (names_in kept) (text_front second) (schema_answer second)
told_first false kept (Ok first) second = record { pieces = []; status = Cut }

-- the second text: the lines behind the separator
abbrev pub second_part : List (List ℕ) → List ℕ
second_part lines = join_with_byte 10 (after_separator lines)

-- What lines tell. Where the input is cut, the first schema is judged only where its separator is among them.
abbrev pub told_lines : Bool → List (List ℕ) → Told Ending
told_lines whole lines =
    if whole || list_any is_separator lines then told_first whole (text_front (schema_part lines)) (schema_answer (schema_part lines)) (second_part lines)
    else record { pieces = []; status = Cut }

-- what an input tells that is read to its end
abbrev pub told_whole : List ℕ → Told Ending
told_whole input = let lines = lines_of input in told_lines true (lines.ended ++ lines.rest ∷ [])

-- what an input tells of which these are the bytes within the budget: only lines with their line feed count
abbrev pub told_cut : List ℕ → Told Ending
told_cut input = told_lines false (lines_of input).ended

-- what the two texts of an input within a budget tell: refusals, or both schemas
unfoldable pub told_texts : List ℕ → ℕ → Told Ending
told_texts input budget = if nat_le budget (length input) then told_cut (take budget input) else told_whole input

-- the status by whether something is outside
abbrev pub status_by : Bool → Status
status_by some = if some then statuses.Refused else statuses.Accepted
