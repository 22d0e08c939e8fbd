-- The command `load`. What is told of a text that is no schema rests on no area.
use Rattle.std.specs.Prelude.{◌≡◌, true, Ok}
use Rattle.pgs_command.specs.Spec.{CommandSpec}
use Rattle.pgs_syntax.specs.declared.resolved.Resolved.{Resolved}
use Rattle.pgs_run_input.specs.Answers.{schema_answer}
use Rattle.pgs_run_store.specs.Spec.{over_areas}
use Rattle.pgs_run_renewal.specs.LoadLeaving.{LeavesLoaded}
use Rattle.pgs_run_renewal.specs.LoadTold.{told_load}

abbrev pub load_spec : CommandSpec
load_spec = record (
    over_areas true (λ input areas bytes lost. told_load input areas bytes) (λ old new status. LeavesLoaded old.source.left old.view new.view status)) {
      AsksAreas = λ input. (schema : Resolved) × (schema_answer input ≡ Ok schema);
    }
