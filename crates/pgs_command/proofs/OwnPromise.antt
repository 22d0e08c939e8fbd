-- The promise of a command that reads its source, uses no area, and whose machine ends by itself.
use Rattle.std.proofs.Common.{◌≡◌, inl, inr, ℕ, List, Option, Some, true, refl, sym, subst, ◌∙◌}
use Rattle.pgs_run_lines.specs.declared.stop.Stop.{Stop}
use Rattle.pgs_run_lines.specs.declared.stop.Stop.TheVariants as stops
use Rattle.pgs_run_lines.specs.AreasKept.{KeepsAreas}
use Rattle.pgs_run_lines.specs.Ending as lines
use Rattle.pgs_run_lines.specs.Machine.{Machine, Told}
use Rattle.pgs_run_lines.specs.May.{MayCome}
use Rattle.pgs_run_lines.specs.Pieces.{shown_of}
use Rattle.pgs_run_lines.specs.Run as over
use Rattle.pgs_run_lines.specs.Run.{EndsBy}
use Rattle.pgs_command.specs.declared.status.Status.{Status}
use Rattle.pgs_command.specs.Answers.{IsOfCommand}
use Rattle.pgs_command.specs.Ending.{status_at}
use Rattle.pgs_command.specs.Kept.{without_areas}
use Rattle.pgs_command.specs.Promise.{Promise}
use Rattle.pgs_command.specs.Run.{EndsAs}
use Rattle.pgs_command.specs.Setting.{Setting, faults_in}
use Rattle.pgs_command.proofs.Images.{images_areas, settled_images}
use Rattle.pgs_command.proofs.OwnEnds.{IsDone, EndsAlone, ends_alone, read_alone, cause_alone, full_alone}
use Rattle.pgs_command.proofs.Promising.{promise_reading}

command_done : (status : Status) → IsDone status → IsOfCommand status
command_done status (inl is) = subst IsOfCommand (sym is) tt
command_done status (inr (inl is)) = subst IsOfCommand (sym is) tt
command_done status (inr (inr is)) = subst IsOfCommand (sym is) tt

module _ (m : Machine Status) (alone : EndsAlone m) where
  command_at : (budget : ℕ) (before left : Option (List ℕ)) (stop : Stop Status) → EndsBy m budget before left stop → IsOfCommand (status_at stop)
  command_at budget before left (stops.Ended status) (inl line) = subst IsOfCommand (sym (alone.line line.state line.line status line.is)) tt
  command_at budget before left (stops.Ended status) (inr (inl end)) = command_done status (subst IsDone end.is (alone.rest end.state end.rest))
  command_at budget before left (stops.Ended status) (inr (inr cut)) = subst IsOfCommand (sym (alone.cut cut.state) ∙ cut.is) tt
  command_at budget before left stops.ReadFault by = tt
  command_at budget before left stops.DiskFault by = tt
  command_at budget before left stops.PutFault by = tt
  command_at budget before left stops.Memory by = tt

  pub own_command : (budget : ℕ) (before left : Option (List ℕ)) (stop : Stop Status) (status : Status) → status ≡ status_at stop → EndsBy m budget before left stop → IsOfCommand status
  own_command budget before left stop status same by = subst IsOfCommand (sym same) (command_at budget before left stop by)

  -- `tell` is what the machine tells, and `told` the same in other words
  pub promise_own : (tell told : List ℕ → ℕ → Told Status) → ((input : List ℕ) (n : ℕ) → tell input n ≡ told input n) → (budget : ℕ) (old new : Setting) (stop : Stop Status) (status : Status) → status ≡ status_at stop
      → ((input : List ℕ) → old.source.left ≡ Some input → over.EndsAs (tell input) (shown_of old.view) input budget new.source.left stop (shown_of new.view))
      → EndsBy m budget old.source.left new.source.left stop → MayCome m stop → lines.HasCause (faults_in old) (faults_in new) stop → KeepsAreas old.view new.view
      → new.places ≡ old.places → Promise (without_areas true IsOfCommand told) budget old new status
  promise_own tell told tells budget old new stop status same ends by may cause areas places =
      let before = old.source.left in
      let left = new.source.left in
      let ended : (input : List ℕ) → before ≡ Some input → EndsAs (told input) (shown_of old.view) input budget left status (shown_of new.view) =
      λ input is. ends_alone m alone budget before left (tell input) (told input) (tells input) (shown_of old.view) (shown_of new.view) input stop status is same by (ends input is) in
      promise_reading (without_areas true IsOfCommand told) budget old new status refl (record {
        choice = tt;
        right = tt;
        ends = λ input knows is. ended input is;
        takes = λ input rest is rest_is. record { within = (ended input is).within rest rest_is; too_long = (ended input is).too_long rest rest_is };
        full = full_alone m alone budget before left stop status same by;
        in_vain = λ vain. absurd vain;
        read_to_end = read_alone m alone budget before left stop status same by;
        may_end = own_command budget before left stop status same by;
        cause = cause_alone m alone budget before left (faults_in old) (faults_in new) stop status same by may cause;
        leaves = areas;
        settles = λ settled no. settled_images old.view new.view settled (images_areas old.view new.view areas);
        feeds = places;
      })
