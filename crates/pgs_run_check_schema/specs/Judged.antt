-- What a check judges of a guard: each type that isn't abstract, what each key reaches, and which subtypes it doesn't speak of; and the lines
-- by that.
use Rattle.std.specs.Prelude.{◌≡◌, ℕ, List, []}
use Rattle.pgs_syntax.specs.declared.resolved.Resolved.{Resolved}
use Rattle.pgs_key_standing.specs.declared.reached.Reach.{Reach}
use Rattle.pgs_key_standing.specs.Reach.{AreReached}
use Rattle.pgs_advice.specs.declared.subtypes.Subtype.{Subtype}
use Rattle.pgs_advice.specs.Apart.{AreApartOf}
use Rattle.pgs_advice_lines.specs.declared.line.Line.{Line}
use Rattle.pgs_advice_lines.specs.Telling.{lines_of}
use Rattle.pgs_run_contain.specs.Answers.{Answer, listed}
use Rattle.pgs_run_check_schema.specs.Examples.{AreExamples, type_lines}
use Rattle.pgs_run_check_schema.specs.Read.{tokens_in, script_in}

-- an answer to each type that isn't abstract, what each key reaches, and the subtypes that are apart from what it names, all in the guard's
-- order
pub record Judgement : Type 0 where
  pub types : List Answer
  pub keys : List Reach
  pub apart : List (List Subtype)

abbrev pub no_judgement : Judgement
no_judgement = record { types = []; keys = []; apart = [] }

-- what is judged is right
pub record IsJudged (resolved : Resolved) (judged : Judgement) : Type 0 where
  pub types : AreExamples resolved (listed resolved resolved.guard.types) judged.types
  pub keys : AreReached resolved resolved.guard.keys judged.keys
  pub apart : AreApartOf resolved resolved.guard.keys judged.apart

-- the lines of a text whose schema this is
abbrev pub lines_by : List ℕ → Resolved → Judgement → List Line
lines_by text resolved judged =
    lines_of (tokens_in text) (script_in text) resolved (type_lines resolved judged.types) judged.keys judged.apart

-- these are its lines, by what is rightly judged
pub record HasLinesOf (text : List ℕ) (resolved : Resolved) (lines : List Line) : Type 0 where
  pub judged : Judgement
  pub right : IsJudged resolved judged
  pub is : lines ≡ lines_by text resolved judged
