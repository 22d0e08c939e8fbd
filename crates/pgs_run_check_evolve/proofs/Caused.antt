-- What follows the line of a text that is refused: the line of its cause, or none.
use Rattle.std.proofs.Common.{◌≡◌, ℕ, List, [], Option, Some, None, refl, sym, subst}
use Rattle.pgs_run_lines.specs.declared.stop.Stop.{Stop}
use Rattle.pgs_run_lines.specs.declared.stop.Stop.TheVariants as stops
use Rattle.pgs_run_lines.specs.AreasKept.{KeepsAreas, keeps_none}
use Rattle.pgs_run_lines.specs.Ending.{HasCause, Shows, faults_of}
use Rattle.pgs_run_lines.specs.Pieces.{ShowsAll, pieces_in, shown_of}
use Rattle.pgs_run_lines.proofs.Showing.{shows_none}
use Rattle.pgs_world.specs.Moment.{IsTimed}
use Rattle.pgs_world.specs.World.{View}
use Rattle.pgs_command.specs.declared.status.Status.{Status}
use Rattle.pgs_command.specs.declared.status.Status.TheVariants.{SchemaRefused}
use Rattle.pgs_run_refusal.specs.Refused.{IsCause, IsCauseLine, line_if}
use Rattle.pgs_run_contain.specs.declared.ending.Ending.TheVariants as endings
use Rattle.pgs_run_contain.specs.Behind.{FollowsEnding}
use Rattle.pgs_run_check_evolve.specs.Spec.{evolve_behind}
use Rattle.pgs_run_check_evolve.specs.Told.{chosen_cause, nothing_chosen}

same_line : (found : Option (List ℕ)) → line_if found ≡ pieces_in found
same_line None = refl
same_line (Some line) = refl

is_cause : (text : List ℕ) (found : Option (List ℕ)) → IsCauseLine text found → IsCause text (pieces_in found)
is_cause text found is = subst (IsCause text) (same_line found) is

module _ (text : List ℕ) where
  -- the line was put, or there is none
  pub cause_put : (found : Option (List ℕ)) (old new : View) → IsCauseLine text found → ShowsAll (shown_of old) (pieces_in found) (shown_of new) → faults_of 0 new ≡ faults_of 0 old → KeepsAreas old new
      → FollowsEnding evolve_behind (endings.Refused text) old (stops.Ended SchemaRefused) new
  cause_put found old new is shows faults areas =
      record { choice = chosen_cause (pieces_in found); right = is_cause text found is; ends = (shows, refl); may = tt; cause = faults; areas = areas }

  -- its put failed
  pub cause_torn : (found : Option (List ℕ)) (stop : Stop Status) (old new : View) → stop ≡ stops.PutFault → IsCauseLine text found → Shows (shown_of old) (pieces_in found) stop (shown_of new) → HasCause (faults_of 0 old) (faults_of 0 new) stop
      → KeepsAreas old new → FollowsEnding evolve_behind (endings.Refused text) old stop new
  cause_torn found stop old new fault is shows cause areas =
      subst (λ (s : Stop Status). FollowsEnding evolve_behind (endings.Refused text) old s new) (sym fault)
      (record {
        choice = chosen_cause (pieces_in found);
        right = is_cause text found is;
        ends = subst (λ (s : Stop Status). Shows (shown_of old) (pieces_in found) s (shown_of new)) fault shows;
        may = tt;
        cause = subst (λ (s : Stop Status). HasCause (faults_of 0 old) (faults_of 0 new) s) fault cause;
        areas = areas;
      })

  -- there was no memory for it
  pub cause_unmade : (view : View) → IsTimed view → FollowsEnding evolve_behind (endings.Refused text) view stops.Memory view
  cause_unmade view timed = record {
    choice = nothing_chosen;
    right = tt;
    ends = record { first = []; later = []; parts = refl; shows = shows_none (shown_of view) };
    may = tt;
    cause = refl;
    areas = keeps_none view timed;
  }
