-- What `try` and `apply` of the check tell of an input within a budget: verdict lines, behind each refusal its causes, and a status.
use Rattle.std.specs.Prelude.{ℕ, ◌+◌, Bool, true, false, ◌||◌, List, [], ◌∷◌, ◌++◌, length, map, take, Result, Ok, Err, nat_le, if◌then◌else◌}
use Rattle.std.specs.List.{list_any}
use Rattle.pgs_base.specs.Graph.{empty_graph}
use Rattle.pgs_answer.specs.Lines.{refused_line, schema_refused_line}
use Rattle.pgs_run_lines.specs.Input.{lines_of}
use Rattle.pgs_run_lines.specs.Machine.{Told}
use Rattle.pgs_syntax.specs.declared.resolved.Resolved.{Resolved}
use Rattle.pgs_violation.specs.Violations.{verdict}
use Rattle.pgs_command.specs.declared.status.Status.{Status}
use Rattle.pgs_command.specs.declared.status.Status.TheVariants.{Accepted, Refused, SchemaRefused, InputTooLong}
use Rattle.pgs_command.specs.Areas.{Areas}
use Rattle.pgs_run_input.specs.Answers.{schema_answer}
use Rattle.pgs_run_input.specs.Input.{is_separator, schema_part, after_separator}
use Rattle.pgs_run_input.specs.Session.{Standing, Telling, after_lines, pieces_of_lines}
use Rattle.pgs_run_store.specs.Refusing.{SavedStore, told_of_areas}
use Rattle.pgs_run_check_try.specs.Lines.{accepted_line, because_line}

-- The causes of the refused lines, by their numbers, each a text; and by 0 the lines behind that of a refused schema.
abbrev pub Causes : Type 0
Causes = ℕ → List (List ℕ)

-- what is told of an answer: its verdict line, and behind a refusal a line for each cause
abbrev pub with_causes : Causes → Telling
with_causes causes s (Ok g) = accepted_line (s.number + 1) (s.commits + 1) ∷ []
with_causes causes s (Err text) = refused_line (s.number + 1) text ∷ map (because_line (s.number + 1)) (causes (s.number + 1))

-- the status after a whole input, by whether a line was refused
abbrev pub status_after : Bool → Status
status_after refused = if refused then Refused else Accepted

-- what lines tell from a standing on; an input that is cut has a status of its own
abbrev pub told_from : Causes → Resolved → Standing → Bool → List (List ℕ) → Told Status
told_from causes schema s whole lines = record {
  pieces = pieces_of_lines (with_causes causes) (verdict schema) s lines;
  status = if whole then status_after (after_lines (verdict schema) s lines).refused else InputTooLong;
}

-- what an input tells, by what its lines do; where it is cut, only lines with their line feed count
abbrev pub by_lines : (Bool → List (List ℕ) → Told Status) → List ℕ → ℕ → Told Status
by_lines tell input budget =
    if nat_le budget (length input) then tell false (lines_of (take budget input)).ended
    else let lines = lines_of input in tell true (lines.ended ++ lines.rest ∷ [])

-- ---- from the empty graph

-- where a run stands before its first line
abbrev pub start : Standing
start = record { number = 0; commits = 0; refused = false; graph = empty_graph }

-- what a schema tells, with the lines after it
abbrev pub told_schema : Causes → Bool → Result Resolved (List ℕ) → List (List ℕ) → Told Status
told_schema causes whole (Err text) lines = record { pieces = schema_refused_line text ∷ causes 0; status = SchemaRefused }
told_schema causes whole (Ok schema) lines = told_from causes schema start whole lines

-- What lines tell. Where the input is cut, a schema part is judged only where its separator is among them.
abbrev pub told_lines : Causes → Bool → List (List ℕ) → Told Status
told_lines causes whole lines =
    if whole || list_any is_separator lines then told_schema causes whole (schema_answer (schema_part lines)) (after_separator lines)
    else record { pieces = []; status = InputTooLong }

-- a schema, and lines on the empty graph under it
unfoldable pub told_check_try : Causes → List ℕ → ℕ → Told Status
told_check_try causes input budget = by_lines (told_lines causes) input budget

-- ---- on a saved store

-- where a run stands before its first line: commit numbers go on from those that are saved
abbrev pub start_on : SavedStore → Standing
start_on store = record { number = 0; commits = store.commits; refused = false; graph = store.graph }

-- what lines tell on a store, of an input within a budget
abbrev pub told_on : Causes → List ℕ → ℕ → SavedStore → Told Status
told_on causes input budget store = by_lines (told_from causes store.schema (start_on store)) input budget

-- the two areas are judged first, and then the lines
unfoldable pub told_check_apply : Causes → List ℕ → Areas → ℕ → Told Status
told_check_apply causes input areas budget = told_of_areas areas (told_on causes input budget)
