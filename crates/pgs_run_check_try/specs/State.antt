-- Where a run stands between two transaction lines, and what a line tells there.
use Rattle.std.specs.Prelude.{◌≡◌, ℕ, Bool, List, Result}
use Rattle.pgs_base.specs.Graph.{Graph}
use Rattle.pgs_store.specs.State.{GuardState}
use Rattle.pgs_syntax.specs.declared.resolved.Resolved.{Resolved}
use Rattle.pgs_violation.specs.Violations.{verdict}
use Rattle.pgs_run_input.specs.Session.{Standing, after_line, pieces_of_line}
use Rattle.pgs_run_check_try.specs.Right.{HasRight}
use Rattle.pgs_run_check_try.specs.Told.{Causes, with_causes}

-- under the schema of a text
pub record SessionState : Type 0 where
  pub text : List ℕ
  pub schema : Resolved
  pub standing : Standing

-- on a guard, behind so many numbered lines
abbrev pub state_of : GuardState → ℕ → Bool → SessionState
state_of guard number refused = record {
  text = guard.text;
  schema = guard.schema;
  standing = record { number = number; commits = guard.commits; refused = refused; graph = guard.graph };
}

-- the session after a line, and what the line tells
abbrev pub session_after : SessionState → List ℕ → SessionState
session_after s line = record { text = s.text; schema = s.schema; standing = after_line (verdict s.schema) s.standing line }

abbrev pub session_pieces : Causes → SessionState → List ℕ → List (List ℕ)
session_pieces causes s line = pieces_of_line (with_causes causes) (verdict s.schema) s.standing line

-- what is told of an answer, with causes that are right
pub record TellsWith (AreRight : List (List ℕ) → Type 0) (s : Standing) (answer : Result Graph (List ℕ)) (pieces : List (List ℕ)) : Type 0 where
  pub texts : List (List ℕ)
  pub right : AreRight texts
  pub is : pieces ≡ with_causes (λ number. texts) s answer

-- what a line tells, with causes that are right
pub record TellsLine (s : SessionState) (line : List ℕ) (pieces : List (List ℕ)) : Type 0 where
  pub causes : Causes
  pub right : HasRight ⊥ causes s.text s.schema s.standing line
  pub is : pieces ≡ session_pieces causes s line
