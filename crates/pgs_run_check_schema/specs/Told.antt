-- What the word `schema` tells of an input within a budget, by what is judged of its guard and the cause of a refusal: lines, and a status.
use Rattle.std.specs.Prelude.{ℕ, List, [], ◌∷◌, length, map, Result, Ok, Err, nat_le, if◌then◌else◌}
use Rattle.std.specs.List.{list_any}
use Rattle.pgs_run_lines.specs.Machine.{Told}
use Rattle.pgs_syntax.specs.declared.resolved.Resolved.{Resolved}
use Rattle.pgs_answer.specs.Lines.{schema_refused_line}
use Rattle.pgs_advice_lines.specs.declared.line.Line.{Line}
use Rattle.pgs_command.specs.declared.status.Status.{Status}
use Rattle.pgs_command.specs.declared.status.Status.TheVariants.{Accepted, Refused, SchemaRefused, PutFault, InputTooLong}
use Rattle.pgs_run_input.specs.Answers.{schema_answer}
use Rattle.pgs_run_refusal.specs.Refused.{IsCause}
use Rattle.pgs_run_check_schema.specs.Judged.{Judgement, no_judgement, IsJudged, lines_by}

-- a status of 1 where a line warns
abbrev pub told_lines : List Line → Told Status
told_lines lines = record {
  pieces = map (λ (line : Line). line.text) lines;
  status = if list_any (λ (line : Line). line.warns) lines then Refused else Accepted;
}

-- a status of 3 where a text is refused
abbrev pub told_refusal : List (List ℕ) → Told Status
told_refusal lines = record { pieces = lines; status = SchemaRefused }

-- what is free as long as it is right: what is judged of a guard, and the lines of the cause of a refusal
pub record Chosen : Type 0 where
  pub judged : Judgement
  pub cause : List (List ℕ)

abbrev pub nothing_chosen : Chosen
nothing_chosen = record { judged = no_judgement; cause = [] }

-- what a text tells: the lines of its schema, or that of its refusal and those of the cause
abbrev pub told_by : List ℕ → Chosen → Result Resolved (List ℕ) → Told Status
told_by text chosen (Ok resolved) = told_lines (lines_by text resolved chosen.judged)
told_by text chosen (Err refusal) = told_refusal (schema_refused_line refusal ∷ chosen.cause)

abbrev pub told_text : Chosen → List ℕ → Told Status
told_text chosen text = told_by text chosen (schema_answer text)

-- the whole input is the text; where it is cut nothing is judged
unfoldable pub told_schema : Chosen → List ℕ → ℕ → Told Status
told_schema chosen input budget =
    if nat_le budget (length input) then record { pieces = []; status = InputTooLong } else told_text chosen input

-- with these statuses lines of a schema may have been put
abbrev pub HasLines : Status → Type 0
HasLines Accepted = Unit {0}
HasLines Refused = Unit {0}
HasLines PutFault = Unit {0}
HasLines status = ⊥

-- Then each type of the guard that isn't abstract is rightly judged, and each key. Of a text that is refused there is at most one line of the
-- cause, which is of a place within it.
abbrev pub IsRightOf : List ℕ → Result Resolved (List ℕ) → Chosen → Status → Type 0
IsRightOf text (Ok resolved) chosen status = HasLines status → IsJudged resolved chosen.judged
IsRightOf text (Err refusal) chosen status = IsCause text chosen.cause
