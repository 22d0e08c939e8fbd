-- What a run of `contain` says of two schemas that ended with 0.
use Rattle.std.specs.Prelude.{◌≡◌, true, List, ℕ, Ok}
use Rattle.pgs_base.specs.Graph.{Graph, is_graph}
use Rattle.pgs_syntax.specs.declared.resolved.Resolved.{Resolved}
use Rattle.pgs_violation.specs.Violations.{conforms}
use Rattle.pgs_schema_changes.specs.AsksNoMore.{AreTypesContained, are_keys_kept}
use Rattle.pgs_run_input.specs.Answers.{schema_answer}
use Rattle.pgs_run_input.specs.Input.{schema_part}
use Rattle.pgs_run_contain.specs.Told.{second_part}
use Rattle.pgs_run_laws.specs.Lines.{all_lines}

-- The two texts of an input, before and behind its separator, are schemas, and each type of the first guard that isn't abstract is contained
-- in the second schema. So where the first guard is strict, and each key of the second one is kept, what conforms to the first conforms to
-- the second.
pub record IsCompared (input : List ℕ) : Type 0 where
  pub first : Resolved
  pub second : Resolved
  pub first_is : schema_answer (schema_part (all_lines input)) ≡ Ok first
  pub second_is : schema_answer (second_part (all_lines input)) ≡ Ok second
  pub contained : AreTypesContained first second
  pub kept : first.guard.strict ≡ true → are_keys_kept first second ≡ true → (g : Graph) → is_graph g ≡ true → conforms first g ≡ true → conforms second g ≡ true
