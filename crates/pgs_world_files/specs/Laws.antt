-- Where the writer and the files of a world tell what a stop may leave, each part of it has a past.
use Rattle.std.specs.Prelude.{ℕ, Bool, true, false, ◌&&◌, [], Option, Some, None, IsTrue, refl}
use Rattle.std.specs.Option.{unwrap_or}
use Rattle.std.proofs.lemmas.Bool.{false≢true}
use Rattle.pgs_world_streams.specs.Given.{PlainCall, BareCall}
use Rattle.pgs_world_streams.specs.Past.{Past, IsPast, empty_past}
use Rattle.pgs_world_streams.specs.Written.{HasWriterStops}
use Rattle.pgs_world_files.specs.declared.file_world.FileWorld.{FileWorld}
use Rattle.pgs_world_files.specs.Counted.{Told, pasts_of}
use Rattle.pgs_world_files.specs.Failing.{FileCalls}
use Rattle.pgs_world_files.specs.Joined.{ArePasts}
use Rattle.pgs_world_files.specs.Stops.{HasStops, past_in}

-- the laws of the writer and of the files
pub record AreLaws {W H : Type 0} (told : Told W H) (files : FileCalls H) (writes : ℕ → PlainCall W) (flushes : ℕ → BareCall W) : Type 0 where
  pub writer : HasWriterStops told.written told.output_past writes flushes
  pub file : HasStops told.bytes told.file_past files.lengths files.reads files.writes files.cuts files.syncs

-- both tell
pub tells_first : (one two : Bool) → IsTrue (one && two) → IsTrue one
tells_first true two tells = refl
tells_first false two tells = absurd (false≢true tells)

pub tells_second : (one two : Bool) → IsTrue (one && two) → IsTrue two
tells_second true two tells = tells
tells_second false two tells = absurd (false≢true tells)

pub empty_is_past : IsPast empty_past
empty_is_past = record { settled = λ t c le left. left; now = λ t c le left. left }

pub area_is_past : {H : Type 0} (past : H → Past) → ((file : H) → IsPast (past file)) → (handle : Option H) → IsPast (past_in past handle)
area_is_past past each None = empty_is_past
area_is_past past each (Some file) = each file

pub are_pasts : {W H : Type 0} (told : Told W H) (files : FileCalls H) (writes : ℕ → PlainCall W) (flushes : ℕ → BareCall W) → AreLaws told files writes flushes
    → (world : FileWorld W H) → ArePasts (pasts_of told.output_past told.file_past world) (unwrap_or (told.written world.writer) [])
are_pasts told files writes flushes laws world =
    record {
      a = area_is_past told.file_past laws.file.is_past world.areas.a.handle;
      b = area_is_past told.file_past laws.file.is_past world.areas.b.handle;
      output = laws.writer.is_past world.writer;
      shown = laws.writer.shown world.writer;
      all = laws.writer.all world.writer;
    }
