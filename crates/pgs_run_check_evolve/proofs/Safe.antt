-- What is told safe is safe.
use Rattle.std.proofs.Common.{◌≡◌, Bool, true, false, ◌&&◌, ◌||◌, not, List, Option, Some, None, is_some, refl, sym, ap, ◌∙◌, true≢false}
use Rattle.std.specs.List.{list_any}
use Rattle.pgs_base.specs.Graph.{Graph, is_graph}
use Rattle.pgs_syntax.specs.declared.resolved.Resolved.{Resolved}
use Rattle.pgs_violation.specs.Violations.{conforms}
use Rattle.pgs_command.specs.declared.status.Status.{Status}
use Rattle.pgs_command.specs.declared.status.Status.TheVariants.{Accepted, Refused}
use Rattle.pgs_schema_changes.specs.AsksNoMore.{are_keys_kept}
use Rattle.pgs_schema_changes.specs.Safe.{is_safe}
use Rattle.pgs_schema_changes.proofs.Steps.{keeps_graphs}
use Rattle.pgs_run_contain.specs.Answers.{Answer}
use Rattle.pgs_run_contain.specs.Names.{Names}
use Rattle.pgs_run_contain.specs.Running.{HasAllLines}
use Rattle.pgs_run_contain.proofs.Containing.{types_contained}
use Rattle.pgs_run_check_evolve.specs.Told.{all_contained, status_by, told_changes, AreRightly}

pub safe_status : (safe : Bool) → status_by safe ≡ Accepted → safe ≡ true
safe_status true is = refl
safe_status false is = absurd (let no : Refused ≡ Accepted = is in cc)

none_outside : (answers : List Answer) → all_contained answers ≡ true → list_any is_some answers ≡ false
none_outside answers all = by (list_any is_some answers) all
  where
    by : (b : Bool) → not b ≡ true → b ≡ false
    by true is = cc
    by false is = refl

-- under a loose guard it doesn't matter what is outside
loose_safe : (old new : Resolved) (contained : Bool) → new.guard.strict ≡ false → is_safe old new contained ≡ true → is_safe old new false ≡ true
loose_safe old new contained loose safe =
    ap (λ (b : Bool). are_keys_kept old new && (not b || (old.guard.strict && false))) loose
    ∙ sym (ap (λ (b : Bool). are_keys_kept old new && (not b || (old.guard.strict && contained))) loose) ∙ safe

pub kept_by : (old new : Resolved) (names : Names) (choice : Option (List Answer)) (status : Status) → HasAllLines status → AreRightly choice old new names status → (told_changes choice old new).status ≡ Accepted
    → (g : Graph) → is_graph g ≡ true → conforms old g ≡ true → conforms new g ≡ true
kept_by old new names None status all right told g graph fits = absurd (right all)
kept_by old new names (Some answers) status all right told g graph fits = by new.guard.strict refl
  where
    safe : is_safe old new (all_contained answers) ≡ true
    safe = safe_status (is_safe old new (all_contained answers)) told

    by : (strict : Bool) → new.guard.strict ≡ strict → conforms new g ≡ true
    by true is = keeps_graphs old new (all_contained answers) safe (λ none. types_contained old new names answers status all (none_outside answers none) (right is)) g graph fits
    by false is = keeps_graphs old new false (loose_safe old new (all_contained answers) is safe) (λ no. absurd (true≢false (sym no))) g graph fits
