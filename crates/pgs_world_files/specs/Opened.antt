-- Which files the areas of a store are.
use Rattle.std.specs.Prelude.{◌≡◌, ◌⊎◌, ℕ, Bool, true, false, List, ◌++◌, Option, Some, None, codes}
use Rattle.pgs_world_files.specs.declared.access.Access.{Access}
use Rattle.pgs_world_files.specs.declared.access.Access.TheVariants.{Read, ReadBeside, ReadUnlocked}
use Rattle.pgs_world_files.specs.declared.access.StoreAccess.{StoreAccess}
use Rattle.pgs_world_files.specs.declared.access.StoreAccess.TheVariants as store
use Rattle.pgs_world_files.specs.declared.area_file.AreaFile.{AreaFile}
use Rattle.pgs_world_files.specs.declared.area_files.AreaFiles.{AreaFiles}
use Rattle.pgs_world_files.specs.declared.cause.FileCause.{FileCause}
use Rattle.pgs_world_files.specs.declared.cause.FileCause.TheVariants.{Locked}
use Rattle.pgs_world_files.specs.Access.{access_of_a, access_of_b}

-- what a name and an access gave
abbrev pub AreaGives : Type 0 → Type 1
AreaGives H = List ℕ → Access → AreaFile H → Type 0

-- the area in the file of this name, where there is a first file; else none
abbrev pub IsSecond : {H : Type 0} → AreaGives H → List ℕ → Access → Option H → AreaFile H → Type 0
IsSecond gives name access (Some first) second = gives name access second
IsSecond gives name access None second = second.handle ≡ None

-- the files NAME.a and NAME.b, opened for these accesses
abbrev pub AreOpened : {H : Type 0} → AreaGives H → List ℕ → Access → Access → AreaFiles H → Type 0
AreOpened gives name of_a of_b areas =
    gives (name ++ codes ".a") of_a areas.a × IsSecond gives (name ++ codes ".b") of_b areas.a.handle areas.b

-- there is no file, since another run has it locked
abbrev pub is_taken : {H : Type 0} → Option H → Option FileCause → Bool
is_taken None (Some Locked) = true
is_taken handle cause = false

-- the file of this name was to be read, and another run has it locked
pub record IsTaken {H : Type 0} (gives : AreaGives H) (name : List ℕ) : Type 0 where
  pub area : AreaFile H
  pub gave : gives name Read area
  pub taken : is_taken area.handle area.cause ≡ true

-- The areas of the store NAME are in the files NAME.a and NAME.b, opened for what the run does with it. Who reads goes beside the run that
-- has NAME.a, where one has it.
abbrev pub IsStoreOf : {H : Type 0} → AreaGives H → List ℕ → StoreAccess → AreaFiles H → Type 0
IsStoreOf gives name store.Read areas =
    ((is_taken areas.a.handle areas.a.cause ≡ false) × AreOpened gives name Read Read areas)
    ⊎ (IsTaken gives (name ++ codes ".a") × AreOpened gives name ReadUnlocked ReadBeside areas)
IsStoreOf gives name access areas = AreOpened gives name (access_of_a access) (access_of_b access) areas
