-- Words that are refused: their line was put, its put failed, or there was no memory for it.
use Rattle.std.proofs.Common.{inl, inr, ℕ, List, [], ◌∷◌, refl, sym, subst}
use Rattle.pgs_run_lines.specs.AreasKept.{KeepsAreas}
use Rattle.pgs_run_lines.specs.Ending.{faults_of}
use Rattle.pgs_run_lines.specs.Machine.{Told}
use Rattle.pgs_run_lines.specs.Pieces.{shown_of}
use Rattle.pgs_run_lines.specs.Replies.{EndsLast}
use Rattle.pgs_run_lines.proofs.Causes.{world_same}
use Rattle.pgs_world.specs.World.{View}
use Rattle.pgs_command.specs.declared.status.Status.{Status}
use Rattle.pgs_command.specs.declared.status.Status.TheVariants.{BadWords, PutFault, Memory}
use Rattle.pgs_command.specs.Answers.{IsOfWords}
use Rattle.pgs_command.specs.Ending.{Ends}
use Rattle.pgs_command.specs.Promise.{PromiseAlone}
use Rattle.pgs_command.specs.Run.{HasCause}
use Rattle.pgs_command.specs.Words.{refused_words}
use Rattle.pgs_command.proofs.Images.{images_areas, settled_images}
use Rattle.pgs_command.proofs.Promising.{promise_alone}

abbrev IsRefusal : List ℕ → View → Status → View → Type 0
IsRefusal line old status new = EndsLast line BadWords PutFault Memory old status new

abbrev told_of : List ℕ → Told Status
told_of line = record { pieces = line ∷ []; status = BadWords }

may_end : (line : List ℕ) (old new : View) (status : Status) → IsRefusal line old status new → IsOfWords status
may_end line old new status (inl (inl whole)) = subst IsOfWords (sym whole.0) tt
may_end line old new status (inl (inr torn)) = subst IsOfWords (sym torn.0) tt
may_end line old new status (inr unmade) = subst IsOfWords (sym unmade.0) tt

shown : (line : List ℕ) (old new : View) (status : Status) → IsRefusal line old status new → Ends (shown_of old) (told_of line) status (shown_of new)
shown line old new status (inl (inl whole)) = subst (λ (s : Status). Ends (shown_of old) (told_of line) s (shown_of new)) (sym whole.0) (whole.1, refl)
shown line old new status (inl (inr torn)) = subst (λ (s : Status). Ends (shown_of old) (told_of line) s (shown_of new)) (sym torn.0) torn.1
shown line old new status (inr unmade) =
    subst (λ (s : Status). Ends (shown_of old) (told_of line) s (shown_of new)) (sym unmade.0) (record { first = []; later = line ∷ []; parts = refl; shows = unmade.1 })

cause : (reads : ℕ) (line : List ℕ) (old new : View) (status : Status) → IsRefusal line old status new → HasCause (refused_words line).reads_source (refused_words line).uses_areas (faults_of reads old) (faults_of reads new) status
cause reads line old new status (inl (inl whole)) = subst (HasCause _ _ (faults_of reads old) (faults_of reads new)) (sym whole.0) (world_same reads reads old new refl whole.2)
cause reads line old new status (inl (inr torn)) = subst (HasCause _ _ (faults_of reads old) (faults_of reads new)) (sym torn.0) (torn.2.0, refl, torn.2.2)
cause reads line old new status (inr unmade) = subst (HasCause _ _ (faults_of reads old) (faults_of reads new)) (sym unmade.0) (world_same reads reads old new refl unmade.2)

pub refused : (line : List ℕ) (old new : View) (status : Status) → KeepsAreas old new → EndsLast line BadWords PutFault Memory old status new → PromiseAlone (refused_words line) old new status
refused line old new status areas ends budget source places =
    promise_alone (refused_words line) budget (record { source = source; view = old; places = places }) (record { source = source; view = new; places = places }) status refl (record {
      choice = tt;
      right = tt;
      shown = λ input knows. shown line old new status ends;
      unread = refl;
      may_end = may_end line old new status ends;
      cause = cause source.faults line old new status ends;
      leaves = areas;
      settles = λ settled no. settled_images old new settled (images_areas old new areas);
      feeds = refl;
    })
