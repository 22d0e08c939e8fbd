-- What is promised of a run, by how its run over lines ended.
use Rattle.std.proofs.Common.{◌≡◌, inl, inr, ℕ, Bool, true, false, List, [], ◌∷◌, Some, Result, Ok, Err, refl, ap, ◌∙◌}
use Rattle.pgs_run_lines.specs.declared.stop.Stop.{Stop}
use Rattle.pgs_run_lines.specs.AreasKept.{KeepsAreas}
use Rattle.pgs_run_lines.specs.Ending.{HasCause}
use Rattle.pgs_run_lines.specs.Machine.{Ended, told_by}
use Rattle.pgs_run_lines.specs.May.{MayCome}
use Rattle.pgs_run_lines.specs.Pieces.{shown_of}
use Rattle.pgs_run_lines.specs.Run.{EndsAs, EndsBy}
use Rattle.pgs_syntax.specs.declared.resolved.Resolved.{Resolved}
use Rattle.pgs_violation.specs.declared.violation.Violation.{Violation}
use Rattle.pgs_command.specs.declared.status.Status.{Status}
use Rattle.pgs_command.specs.declared.status.Status.TheVariants.{SchemaRefused}
use Rattle.pgs_command.specs.Ending.{status_at}
use Rattle.pgs_command.specs.Promise.{Promise}
use Rattle.pgs_command.specs.Setting.{Setting, faults_in}
use Rattle.pgs_command.proofs.OwnEnds.{IsDone, EndsAlone}
use Rattle.pgs_command.proofs.OwnPromise.{promise_own}
use Rattle.pgs_run_input.specs.Answers.{schema_answer}
use Rattle.pgs_run_input.specs.Input.{text_limit}
use Rattle.pgs_run_input.specs.Session.{Standing, after_lines}
use Rattle.pgs_run_try.specs.declared.judging.Judging.{Judging}
use Rattle.pgs_run_try.specs.declared.phase.Phase.{Phase}
use Rattle.pgs_run_try.specs.declared.phase.Phase.TheVariants as phases
use Rattle.pgs_run_try.specs.Judging.{verdict_by, listed}
use Rattle.pgs_run_try.specs.Spec.{judging_spec}
use Rattle.pgs_run_try.specs.Told.{start as first_standing, status_after, told_end, told_schema, told_judging}
use Rattle.pgs_run_try.specs.Trying.{trying, first_phase, next_of, after_end, told_after}
use Rattle.pgs_run_try.proofs.Machine.{told_by_judging}

-- ---- the statuses of the machine's own

line_status : (phase : Phase) (status : Status) → next_of phase ≡ Ended status → status ≡ SchemaRefused
line_status (phases.Schema judging part) status is = cc
line_status (phases.Lines s) status is = cc
line_status phases.Refused status is = cc

done_status : (refused : Bool) (found : List Violation) → IsDone (status_after refused found)
done_status true found = inr (inl refl)
done_status false [] = inl refl
done_status false (violation ∷ found) = inr (inl refl)

done_end : (judging : Judging) (schema : Resolved) (s : Standing) → IsDone (told_end judging schema s).status
unfolding told_end
done_end judging schema s = done_status s.refused (listed judging schema s.graph)

done_schema : (judging : Judging) (schema : Result Resolved (List ℕ)) (lines : List (List ℕ)) → IsDone (told_schema judging true schema lines).status
done_schema judging (Ok schema) lines = done_end judging schema (after_lines (verdict_by judging schema) first_standing lines)
done_schema judging (Err text) lines = inr (inr refl)

done_after : (phase : Phase) → IsDone (told_after phase).status
done_after (phases.Schema judging part) = done_schema judging (schema_answer part.text) []
done_after (phases.Lines s) = done_end s.judging s.schema s.standing
done_after phases.Refused = inr (inr refl)

pub alone : EndsAlone trying
alone = record {
  line = λ phase line status is. line_status (after_end phase line) status is;
  rest = λ phase rest. done_after (after_end phase rest);
  cut = λ phase. refl;
  no_area = λ may. may;
}

-- ---- the run

pub promised : (judging : Judging) (budget : ℕ) (old new : Setting) (phase : Phase) (stop : Stop Status) (status : Status) → phase ≡ first_phase judging → status ≡ status_at stop
    → ((input : List ℕ) → old.source.left ≡ Some input → EndsAs (told_by trying text_limit phase input) (shown_of old.view) input budget new.source.left stop (shown_of new.view))
    → EndsBy trying budget old.source.left new.source.left stop → MayCome trying stop → HasCause (faults_in old) (faults_in new) stop → KeepsAreas old.view new.view
    → new.places ≡ old.places → Promise (judging_spec judging) budget old new status
promised judging budget old new phase stop status first =
    promise_own trying alone (told_by trying text_limit phase) (told_judging judging) (λ input n. ap (λ p. told_by trying text_limit p input n) first ∙ told_by_judging judging input n) budget old new stop status
