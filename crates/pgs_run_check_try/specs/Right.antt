-- Which causes of lines are right.
use Rattle.std.specs.Prelude.{◌≡◌, ◌⊎◌, ℕ, ◌+◌, ◌++◌, false, List, [], ◌∷◌, length, take, Result, Ok, Err, nat_le, if◌then◌else◌}
use Rattle.pgs_base.specs.Graph.{Graph}
use Rattle.pgs_run_lines.specs.Input.{lines_of}
use Rattle.pgs_syntax.specs.declared.resolved.Resolved.{Resolved}
use Rattle.pgs_violation.specs.Violations.{verdict}
use Rattle.pgs_run_input.specs.Answers.{schema_answer}
use Rattle.pgs_run_input.specs.Input.{is_skipped, schema_part, after_separator}
use Rattle.pgs_run_input.specs.Session.{Standing, after_line}
use Rattle.pgs_run_refusal.specs.Refused.{IsCause}
use Rattle.pgs_run_check_try.specs.Causes.{AreLineCauses}
use Rattle.pgs_run_check_try.specs.Told.{Causes, start}

-- these are the causes of a line on a graph; or, where the run may have been stopped before the line, there are none
abbrev pub AreOrLack : (Stopped : Type 0) → (text : List ℕ) → Resolved → Graph → List ℕ → List (List ℕ) → Type 0
AreOrLack Stopped text schema g line causes = AreLineCauses text schema g line causes ⊎ (Stopped × (causes ≡ []))

-- a line that isn't blank has its causes, on the graph where it is decided
abbrev pub HasRight : (Stopped : Type 0) → Causes → (text : List ℕ) → Resolved → Standing → List ℕ → Type 0
HasRight Stopped causes text schema s line = is_skipped line ≡ false → AreOrLack Stopped text schema s.graph line (causes (s.number + 1))

-- so has each of these lines, the first of which is decided at this standing
abbrev pub AreRight : (Stopped : Type 0) → Causes → (text : List ℕ) → Resolved → Standing → List (List ℕ) → Type 0
AreRight Stopped causes text schema s [] = Unit {0}
AreRight Stopped causes text schema s (line ∷ lines) =
    HasRight Stopped causes text schema s line × AreRight Stopped causes text schema (after_line (verdict schema) s line) lines

-- the lines of an input within a budget that may be taken: of one that is cut those with their line feed
abbrev pub lines_within : List ℕ → ℕ → List (List ℕ)
lines_within input budget =
    if nat_le budget (length input) then (lines_of (take budget input)).ended else let lines = lines_of input in lines.ended ++ lines.rest ∷ []

-- of lines behind a schema text, from the empty graph on; of a refused text a place is told that it has
abbrev pub AreRightBehind : (Stopped : Type 0) → Causes → (text : List ℕ) → Result Resolved (List ℕ) → List (List ℕ) → Type 0
AreRightBehind Stopped causes text (Ok schema) lines = AreRight Stopped causes text schema start lines
AreRightBehind Stopped causes text (Err refusal) lines = IsCause text (causes 0)

-- of a schema text and lines
abbrev pub AreRightOf : (Stopped : Type 0) → Causes → List (List ℕ) → Type 0
AreRightOf Stopped causes lines =
    let text = schema_part lines in AreRightBehind Stopped causes text (schema_answer text) (after_separator lines)
