-- The command `checkpoint`.
use Rattle.std.specs.Prelude.{false}
use Rattle.pgs_command.specs.Spec.{CommandSpec}
use Rattle.pgs_run_store.specs.Spec.{over_areas}
use Rattle.pgs_run_renewal.specs.CheckpointLeaving.{LeavesRenewed}
use Rattle.pgs_run_renewal.specs.CheckpointTold.{told_checkpoint}

abbrev pub checkpoint_spec : CommandSpec
checkpoint_spec = over_areas false (λ input areas bytes lost. told_checkpoint areas) (λ old new status. LeavesRenewed old.view new.view status)
