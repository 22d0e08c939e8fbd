-- The commands `try` and `validate`.
use Rattle.std.specs.Prelude.{true}
use Rattle.pgs_command.specs.Answers.{IsOfCommand}
use Rattle.pgs_command.specs.Kept.{without_areas}
use Rattle.pgs_command.specs.Spec.{CommandSpec}
use Rattle.pgs_run_try.specs.declared.judging.Judging.{Judging}
use Rattle.pgs_run_try.specs.Told.{told_judging}

abbrev pub judging_spec : Judging → CommandSpec
judging_spec judging = without_areas true IsOfCommand (told_judging judging)
