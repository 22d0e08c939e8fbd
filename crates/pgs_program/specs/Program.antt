-- What is promised of a run of a program without feeds.
use Rattle.std.specs.Prelude.{◌≡◌, true, List}
use Rattle.pgs_base.specs.declared.seed.Seed.{Seed}
use Rattle.pgs_command.specs.declared.status.Status.{Status}
use Rattle.pgs_command.specs.Calls.{fails_read, fails_world}
use Rattle.pgs_command.specs.Promise.{Promise}
use Rattle.pgs_command.specs.Spec.{CommandSpec}
use Rattle.pgs_feed.specs.Places.{Place}
use Rattle.pgs_program.specs.declared.outside.Outside.{Outside}
use Rattle.pgs_program.specs.declared.outside.Ran.{Ran}
use Rattle.pgs_program.specs.Outside.{IsFresh, Telling, setting_in}
use Rattle.pgs_run_lines.specs.Calls.{MakesReads}
use Rattle.pgs_run_lines.specs.declared.budget.TheConstants.{BUDGET}
use Rattle.pgs_world_files.specs.declared.area_files.AreaFiles.{AreaFiles}

-- A run of this command over this reader, this writer and such areas, from before the first call to its end: all that is promised of the
-- command holds, also of what a stop at any moment of it may leave, where the writer and the files tell that. Where the status says that a call on the areas or the output failed, it was the last one; and these reads were made.
pub record IsRunOf {R W H : Type 0} (spec : CommandSpec) (AreAreas : AreaFiles H → Type 0) (telling : Telling R W H) (reader : R) (writer : W)
    (seed : Seed) (ran : Ran R W H) : Type 0 where
  pub start : Outside R W H
  pub fresh : IsFresh reader writer seed start
  pub areas : AreAreas start.world.areas
  pub promise : (places : List Place) → Promise spec BUDGET (setting_in telling places start) (setting_in telling places ran.outside) ran.status
  pub last : fails_world ran.status ≡ true → telling.failed ran.outside.world
  pub calls : MakesReads telling.read_made BUDGET start.source (fails_read ran.status) ran.outside.source

-- over some reader and some writer such a run ended with this status
pub record EndsRunOf {R W H : Type 0} (spec : CommandSpec) (AreAreas : AreaFiles H → Type 0) (telling : Telling R W H) (seed : Seed)
    (status : Status) : Type 0 where
  pub reader : R
  pub writer : W
  pub ran : Ran R W H
  pub is : IsRunOf spec AreAreas telling reader writer seed ran
  pub ended : ran.status ≡ status
