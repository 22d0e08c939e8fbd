-- The command `apply`. It has nothing to read its source for where the areas are refused, or save no store.
use Rattle.std.specs.Prelude.{◌⊎◌, true, IsTrue}
use Rattle.pgs_feed.specs.Places.{lost_count}
use Rattle.pgs_command.specs.Spec.{CommandSpec}
use Rattle.pgs_run_store.specs.Opening.{IsRefusal}
use Rattle.pgs_run_store.specs.Spec.{over_areas}
use Rattle.pgs_run_apply.specs.Giving.{GivesApplied}
use Rattle.pgs_run_apply.specs.Leaving.{SavesNone, LeavesApplied, FeedsApplied}
use Rattle.pgs_run_apply.specs.Told.{told_apply}

abbrev pub apply_spec : CommandSpec
apply_spec = record (
    over_areas true told_apply (λ old new status. LeavesApplied old.source.left (lost_count new.places) old.view new.view)) {
      ReadsInVain = λ old status. IsRefusal status ⊎ (IsTrue old.view.tells_bytes × SavesNone old.view);
      Feeds = λ old new status. FeedsApplied old.source.left old.view new.view old.places new.places status;
      Gives = λ old new status given. GivesApplied old.source.left (lost_count new.places) old.view new.view status given;
    }
