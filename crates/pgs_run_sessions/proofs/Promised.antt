-- What is promised of a run, by how its run over lines ended.
use Rattle.std.proofs.Common.{◌≡◌, inl, inr, ℕ, Bool, true, false, true≢false, List, [], Some, Result, Ok, Err, refl, sym, ap, subst, ◌∙◌}
use Rattle.pgs_run_lines.specs.declared.stop.Stop.{Stop}
use Rattle.pgs_run_lines.specs.AreasKept.{KeepsAreas}
use Rattle.pgs_run_lines.specs.Ending as lines
use Rattle.pgs_run_lines.specs.Ending.{Faults}
use Rattle.pgs_run_lines.specs.Machine.{Ended, told_by}
use Rattle.pgs_run_lines.specs.May.{MayCome}
use Rattle.pgs_run_lines.specs.Pieces.{shown_of}
use Rattle.pgs_run_lines.specs.Run.{EndsAs, EndsBy}
use Rattle.pgs_syntax.specs.declared.resolved.Resolved.{Resolved}
use Rattle.pgs_command.specs.declared.status.Status.{Status}
use Rattle.pgs_command.specs.declared.status.Status.TheVariants.{SchemaRefused, StoreRefused, DiskFault}
use Rattle.pgs_command.specs.Ending.{status_at}
use Rattle.pgs_command.specs.Promise.{Promise}
use Rattle.pgs_command.specs.Run.{HasCause}
use Rattle.pgs_command.specs.Setting.{Setting, faults_in}
use Rattle.pgs_command.proofs.OwnEnds.{IsDone, EndsAlone}
use Rattle.pgs_command.proofs.OwnPromise.{promise_own}
use Rattle.pgs_run_input.specs.Answers.{schema_answer}
use Rattle.pgs_run_sessions.specs.EventLines.{first, after_lines}
use Rattle.pgs_run_sessions.specs.InputMachine as stands
use Rattle.pgs_run_sessions.specs.InputMachine.{input_machine, first_stand, Stand, Schema, Lines, next_of, after_end, told_after, line_limit}
use Rattle.pgs_run_sessions.specs.Spec.{sessions_spec, spec_where}
use Rattle.pgs_run_sessions.specs.State.{brief_sessions}
use Rattle.pgs_run_sessions.specs.Told.{status_after, told_schema, told_sessions}
use Rattle.pgs_run_sessions.proofs.Machine.{told_by_input}

-- ---- the statuses of the machine's own

line_status : (stand : Stand) (status : Status) → next_of stand ≡ Ended status → status ≡ SchemaRefused
line_status (Schema part) status is = cc
line_status (Lines schema s) status is = cc
line_status stands.Refused status is = cc

done_status : (refused : Bool) → IsDone (status_after refused)
done_status true = inr (inl refl)
done_status false = inl refl

done_schema : (schema : Result Resolved (List ℕ)) → IsDone (told_schema brief_sessions true schema []).status
done_schema (Ok schema) = done_status (after_lines (brief_sessions.step schema) (first brief_sessions.begin) []).refused
done_schema (Err text) = inr (inr refl)

done_after : (stand : Stand) → IsDone (told_after stand).status
done_after (Schema part) = done_schema (schema_answer part.text)
done_after (Lines schema s) = done_status s.refused
done_after stands.Refused = inr (inr refl)

pub alone : EndsAlone input_machine
alone = record {
  line = λ stand line status is. line_status (after_end stand line) status is;
  rest = λ stand rest. done_after (after_end stand rest);
  cut = λ stand. refl;
  no_area = λ may. may;
}

-- ---- the run

pub promised : (budget : ℕ) (old new : Setting) (stand : Stand) (stop : Stop Status) (status : Status) → stand ≡ first_stand → status ≡ status_at stop
    → ((input : List ℕ) → old.source.left ≡ Some input → EndsAs (told_by input_machine line_limit stand input) (shown_of old.view) input budget new.source.left stop (shown_of new.view))
    → EndsBy input_machine budget old.source.left new.source.left stop → MayCome input_machine stop → lines.HasCause (faults_in old) (faults_in new) stop → KeepsAreas old.view new.view
    → new.places ≡ old.places → Promise sessions_spec budget old new status
promised budget old new stand stop status begin =
    promise_own input_machine alone (told_by input_machine line_limit stand) told_sessions (λ input n. ap (λ s. told_by input_machine line_limit s input n) begin ∙ told_by_input input n) budget old new stop status

-- ---- no status of a store

uses_none : (runs : Bool) → (spec_where runs).uses_areas ≡ false
uses_none true = refl
uses_none false = refl

module _ (runs : Bool) (before now : Faults) (status : Status) (cause : HasCause (spec_where runs).reads_source (spec_where runs).uses_areas before now status) where
  pub never_store : status ≡ StoreRefused → ⊥
  never_store is =
      let c : HasCause (spec_where runs).reads_source (spec_where runs).uses_areas before now StoreRefused = subst (HasCause (spec_where runs).reads_source (spec_where runs).uses_areas before now) is cause in
      true≢false (sym c.0 ∙ uses_none runs)

  pub never_disk : status ≡ DiskFault → ⊥
  never_disk is =
      let c : HasCause (spec_where runs).reads_source (spec_where runs).uses_areas before now DiskFault = subst (HasCause (spec_where runs).reads_source (spec_where runs).uses_areas before now) is cause in
      true≢false (sym c.0 ∙ uses_none runs)
