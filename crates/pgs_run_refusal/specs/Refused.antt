-- The lines of a schema text that is refused: that of its refusal, and at most one line of the cause.
use Rattle.std.specs.Prelude.{◌≡◌, ℕ, ◌≤◌, List, [], ◌∷◌, length, Option, Some, None}
use Rattle.pgs_base.specs.declared.text_limit.TheConstants.{TEXT_LIMIT}
use Rattle.pgs_resolve.specs.SchemaOf.{Answer}
use Rattle.pgs_schema_places.specs.Because.{IsBecause}
use Rattle.pgs_run_input.specs.Answers.{IsRefusedLine}

-- the lines of a cause: none, or one of a place within the text, which isn't too long
abbrev pub IsCause : List ℕ → List (List ℕ) → Type 0
IsCause text [] = Unit {0}
IsCause text (line ∷ []) = (length text ≤ TEXT_LIMIT) × IsBecause text line
IsCause text (line ∷ (other ∷ lines)) = ⊥

-- a line as a list, or none
abbrev pub line_if : Option (List ℕ) → List (List ℕ)
line_if None = []
line_if (Some line) = line ∷ []

abbrev pub IsCauseLine : List ℕ → Option (List ℕ) → Type 0
IsCauseLine text found = IsCause text (line_if found)

-- these are the lines of a text with this answer: that of its refusal, and those of the cause
pub record HasRefusal (answer : Answer) (text : List ℕ) (lines : List (List ℕ)) : Type 0 where
  pub line : List ℕ
  pub refused : IsRefusedLine answer line
  pub cause : List (List ℕ)
  pub right : IsCause text cause
  pub is : lines ≡ line ∷ cause
