-- What is promised of a run of the program: over the store that its words name, opened to be read, all that is promised of the command that
-- they name.
use Rattle.std.specs.Prelude.{◌≡◌, ◌⊎◌, ℕ, List}
use Rattle.pgs_base.specs.declared.seed.Seed.{Seed}
use Rattle.pgs_command.specs.declared.status.Status.{Status}
use Rattle.pgs_command.specs.declared.status.Status.TheVariants.{Memory}
use Rattle.pgs_program.specs.declared.outside.Ran.{Ran}
use Rattle.pgs_program.specs.Outside.{AreFilesOf, Telling}
use Rattle.pgs_program.specs.Program.{EndsRunOf, IsRunOf}
use Rattle.pgs_run_check.specs.Commands.{spec_for}
use Rattle.pgs_run_check.specs.Words.{store_of}
use Rattle.pgs_world_files.specs.declared.access.StoreAccess.TheVariants.{Read}
use Rattle.pgs_world_files.specs.declared.area_files.AreaFiles.{AreaFiles}
use Rattle.pgs_world_files.specs.Opened.{AreaGives}

-- the areas of the store that words name, in files that were opened to be read
abbrev pub AreOpenedFor : {H : Type 0} → AreaGives H → (words : List (List ℕ)) → AreaFiles H → Type 0
AreOpenedFor gives words areas = AreFilesOf gives (store_of words) Read areas

-- a run of these words over what was opened for them
abbrev pub IsRunOfWords : {R W H : Type 0} → AreaGives H → Telling R W H → (words : List (List ℕ)) → R → W → Seed → Ran R W H → Type 0
IsRunOfWords gives telling words reader writer seed ran = IsRunOf (spec_for words) (AreOpenedFor gives words) telling reader writer seed ran

-- such a run ended with this status; or there was no memory to open what the words name
abbrev pub EndsAs : {R W H : Type 0} → AreaGives H → Telling R W H → (words : List (List ℕ)) → Status → Type 0
EndsAs gives telling words status = ((seed : Seed) × EndsRunOf (spec_for words) (AreOpenedFor gives words) telling seed status) ⊎ (status ≡ Memory)
