-- What is told of a step from an old schema to a new one, by the answers to the types of the old one; and what is free beside these.
use Rattle.std.specs.Prelude.{◌≡◌, ℕ, Bool, true, List, [], ◌++◌, Option, Some, None, not, is_some, if◌then◌else◌}
use Rattle.std.specs.List.{list_any}
use Rattle.pgs_run_lines.specs.Machine.{Told}
use Rattle.pgs_syntax.specs.declared.resolved.Resolved.{Resolved}
use Rattle.pgs_command.specs.declared.status.Status.{Status}
use Rattle.pgs_command.specs.declared.status.Status.TheVariants.{Accepted, Refused}
use Rattle.pgs_schema_changes.specs.Safe.{is_safe}
use Rattle.pgs_run_contain.specs.Answers.{Answer, listed, answer_lines}
use Rattle.pgs_run_contain.specs.Names.{Names}
use Rattle.pgs_run_contain.specs.Running.{HasAllLines, Answered}
use Rattle.pgs_run_check_evolve.specs.Lines.{lines_behind}

-- the lines of the types of the old guard, where the new one is strict
abbrev pub type_lines : Resolved → Resolved → List Answer → List (List ℕ)
type_lines old new answers = if new.guard.strict then answer_lines (listed old old.guard.types) answers else []

-- whether nothing is outside by these answers
abbrev pub all_contained : List Answer → Bool
all_contained answers = not (list_any is_some answers)

abbrev pub status_by : Bool → Status
status_by safe = if safe then Accepted else Refused

-- what is told by answers; without them the run stopped before
abbrev pub told_changes : Option (List Answer) → Resolved → Resolved → Told Status
told_changes None old new = record { pieces = []; status = Accepted }
told_changes (Some answers) old new = record {
  pieces = type_lines old new answers ++ lines_behind old new (all_contained answers);
  status = status_by (is_safe old new (all_contained answers));
}

-- What is free as long as it is right: the answers to the types, where there are any, and the lines of the cause of a refusal.
pub record Chosen : Type 0 where
  pub answers : Option (List Answer)
  pub cause : List (List ℕ)

abbrev pub nothing_chosen : Chosen
nothing_chosen = record { answers = None; cause = [] }

abbrev pub chosen_answers : List Answer → Chosen
chosen_answers answers = record { answers = Some answers; cause = [] }

abbrev pub chosen_cause : List (List ℕ) → Chosen
chosen_cause cause = record { answers = None; cause = cause }

-- where the new guard is strict the answers to the first types of the old one are right, and with 0 or 1 all of them are answered
abbrev pub AreRightly : Option (List Answer) → Resolved → Resolved → Names → Status → Type 0
AreRightly None old new names status = HasAllLines status → ⊥
AreRightly (Some answers) old new names status = new.guard.strict ≡ true → Answered old new names (listed old old.guard.types) answers status
