-- What a program runs over, before its first call and as contracts see it.
use Rattle.std.specs.Prelude.{◌≡◌, ℕ, List, Option, Some, None, Result, Ok, Err}
use Rattle.std.specs.declared.io.Error.{Error}
use Rattle.std.specs.declared.random_state.RandomState.{RandomState}
use Rattle.pgs_base.specs.declared.seed.Seed.{Seed}
use Rattle.pgs_base.specs.declared.seed.Seed.TheVariants.{Fixed, Random}
use Rattle.pgs_command.specs.Setting.{Setting, setting_of}
use Rattle.pgs_feed.specs.Places.{Place}
use Rattle.pgs_world_files.specs.declared.access.StoreAccess.{StoreAccess}
use Rattle.pgs_world_files.specs.declared.area_files.AreaFiles.{AreaFiles}
use Rattle.pgs_world_files.specs.declared.file_world.FileWorld.{FileWorld}
use Rattle.pgs_world_files.specs.Counted.{Told, seen}
use Rattle.pgs_world_files.specs.Opened.{AreaGives, IsStoreOf}
use Rattle.pgs_world_streams.specs.declared.stdin_source.StdinSource.{StdinSource}
use Rattle.pgs_program.specs.declared.outside.Outside.{Outside}

-- the keys that were drawn; fixed ones where none were
abbrev pub seed_of : Result RandomState Error → Seed
seed_of (Ok keys) = Random keys
seed_of (Err error) = Fixed

-- this reader and this writer, and graphs that hash by this seed: no call was made, and none failed
pub record IsFresh {R W H : Type 0} (reader : R) (writer : W) (seed : Seed) (outside : Outside R W H) : Type 0 where
  pub source : outside.source.reader ≡ reader
  pub unread : outside.source.faults ≡ 0
  pub output : outside.world.writer ≡ writer
  pub counts : outside.world.counts ≡ record { calls = 0; area_faults = 0; put_faults = 0; puts = 0 }
  pub hashes : outside.world.seed ≡ seed

abbrev pub HasNoFiles : {H : Type 0} → AreaFiles H → Type 0
HasNoFiles areas = (areas.a.handle ≡ None) × (areas.b.handle ≡ None)

-- without a store no area has a file; those of a store are its two files
abbrev pub AreFilesOf : {H : Type 0} → AreaGives H → (store : Option (List ℕ)) → StoreAccess → AreaFiles H → Type 0
AreFilesOf gives None access areas = HasNoFiles areas
AreFilesOf gives (Some name) access areas = IsStoreOf gives name access areas

-- What a reader, a writer and files tell: the bytes that are left, and those that were written, those that stand in a file, and what a stop may
-- leave of both; which reads of the input were made, and that the last call on the areas or the output failed.
pub record Telling (R W H : Type 0) : Type 1 where
  pub remaining : R → Option (List ℕ)
  pub told : Told W H
  pub read_made : StdinSource R → (asked : ℕ) → Option ℕ → StdinSource R → Type 0
  pub failed : FileWorld W H → Type 0

-- what contracts see of it, beside feeds that stand so
abbrev pub setting_in : {R W H : Type 0} → Telling R W H → List Place → Outside R W H → Setting
setting_in telling places outside =
    setting_of (telling.remaining outside.source.reader) outside.source.faults (seen telling.told outside.world) places
