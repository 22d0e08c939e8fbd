-- What the command `checkpoint` tells of two areas: one line, and a status.
use Rattle.std.specs.Prelude.{ℕ, ◌+◌, ◌==◌, [], ◌∷◌, Option, Some, None, if◌then◌else◌}
use Rattle.pgs_answer.specs.Lines.{checkpoint_line}
use Rattle.pgs_answer.specs.Refusals.{epochs_spent_text, no_store_text}
use Rattle.pgs_run_lines.specs.Machine.{Told}
use Rattle.pgs_command.specs.declared.status.Status.{Status}
use Rattle.pgs_command.specs.declared.status.Status.TheVariants.{Accepted}
use Rattle.pgs_command.specs.Areas.{Areas}
use Rattle.pgs_run_store.specs.Refusing.{SavedStore, store_refused, told_of_areas}
use Rattle.pgs_snapshot.specs.Choice.{chosen_epoch}

-- what is told of a store of this epoch: the next epoch and the commits; the last epoch has no next one
abbrev pub told_by : Option ℕ → SavedStore → Told Status
told_by None store = store_refused no_store_text
told_by (Some epoch) store =
    if epoch == 16777215 then store_refused epochs_spent_text
    else record { pieces = checkpoint_line (epoch + 1) store.commits ∷ []; status = Accepted }

-- what the command tells of two areas
unfoldable pub told_checkpoint : Areas → Told Status
told_checkpoint areas = told_of_areas areas (told_by (chosen_epoch areas.a areas.b))
