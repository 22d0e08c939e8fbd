-- What a line and the end of the input tell in a phase, with causes that are right.
use Rattle.std.specs.Prelude.{◌≡◌, ℕ, List, ◌++◌}
use Rattle.pgs_run_input.specs.Answers.{schema_answer}
use Rattle.pgs_run_input.specs.Judged.{pieces_behind}
use Rattle.pgs_run_check_try.specs.declared.phase.Phase.{Phase}
use Rattle.pgs_run_check_try.specs.Explaining.{after_end, part_pieces, pieces_at_end}
use Rattle.pgs_run_check_try.specs.Rule.{IsRightText, RightIn, RightPart}
use Rattle.pgs_run_check_try.specs.Told.{Causes}

-- a schema text
pub record TellsText (text : List ℕ) (pieces : List (List ℕ)) : Type 0 where
  pub causes : Causes
  pub right : IsRightText causes text
  pub is : pieces ≡ pieces_behind (causes 0) (schema_answer text)

-- a line
pub record TellsEnd (s : Phase) (line : List ℕ) (pieces : List (List ℕ)) : Type 0 where
  pub causes : Causes
  pub right : RightIn ⊥ causes s line
  pub is : pieces ≡ pieces_at_end causes s line

-- the end of the input, which ends a schema part
pub record TellsPart (s : Phase) (pieces : List (List ℕ)) : Type 0 where
  pub causes : Causes
  pub right : RightPart causes s
  pub is : pieces ≡ part_pieces causes s

-- what stands behind the last line feed, and the end
pub record TellsLast (s : Phase) (rest : List ℕ) (pieces : List (List ℕ)) : Type 0 where
  pub causes : Causes
  pub right : RightIn ⊥ causes s rest
  pub part : RightPart causes (after_end s rest)
  pub is : pieces ≡ pieces_at_end causes s rest ++ part_pieces causes (after_end s rest)
