-- What a type of the guard is answered, nothing where nothing that fits it can stand, else an example, and its line.
use Rattle.std.specs.Prelude.{◌≡◌, ℕ, List, [], ◌∷◌, ◌++◌, Some, None, MatchOption}
use Rattle.pgs_syntax.specs.declared.resolved.Resolved.{Resolved}
use Rattle.pgs_syntax.specs.declared.resolved.TypeNo.{TypeNo}
use Rattle.pgs_answer.specs.Lines.{txn_line}
use Rattle.pgs_standing.specs.Example.{IsNever, IsExample}
use Rattle.pgs_advice_lines.specs.declared.line.Line.{Line}
use Rattle.pgs_advice_lines.specs.Lines.{type_line, never_line}
use Rattle.pgs_advice_lines.specs.Telling.{tell, warn}
use Rattle.pgs_run_contain.specs.Answers.{Answer, Listed, listed, txn_of}

-- the line of an answer, and those of some
abbrev pub example_line : List ℕ → Answer → Line
example_line name None = warn (never_line name)
example_line name (Some example) = tell (type_line name (txn_line (txn_of example)))

abbrev pub example_lines : List Listed → List Answer → List Line
example_lines [] answers = []
example_lines (type ∷ more) [] = []
example_lines (type ∷ more) (answer ∷ answers) = example_line type.1 answer ∷ example_lines more answers

-- the lines of the types of the guard that aren't abstract, in its order
abbrev pub type_lines : Resolved → List Answer → List Line
type_lines resolved answers = example_lines (listed resolved resolved.guard.types) answers

-- each of these types has its answer, and each answer is right: with none nothing that fits the type can stand, else it is an example
abbrev pub AreExamples : Resolved → List Listed → List Answer → Type 0
AreExamples resolved [] [] = Unit {0}
AreExamples resolved [] (answer ∷ answers) = ⊥
AreExamples resolved (type ∷ more) [] = ⊥
AreExamples resolved (type ∷ more) (answer ∷ answers) =
    MatchOption answer (IsNever resolved type.0) (IsExample resolved type.0) × AreExamples resolved more answers

-- the lines of right answers to these types were put last
pub record HasTypes (resolved : Resolved) (numbers : List TypeNo) (old new : List Line) : Type 0 where
  pub answers : List Answer
  pub right : AreExamples resolved (listed resolved numbers) answers
  pub is : new ≡ old ++ example_lines (listed resolved numbers) answers
