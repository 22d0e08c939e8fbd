-- The world over files and a writer, as contracts see it: it tells the output where the writer tells, its areas where both files tell, and
-- its counts. It is honest where the writer and both files tell what a stop may leave of them: of all of them at one moment, then.
use Rattle.std.specs.Prelude.{ℕ, Bool, true, false, List, [], Option, Some, None, IsTrue}
use Rattle.std.specs.Option.{unwrap_or}
use Rattle.pgs_world.specs.Moment.{IsTimed}
use Rattle.pgs_world.specs.World.{Triple, View}
use Rattle.pgs_world_streams.specs.Past.{Past}
use Rattle.pgs_world_files.specs.declared.area_files.AreaFiles.{AreaFiles}
use Rattle.pgs_world_files.specs.declared.counts.Counts.{Counts}
use Rattle.pgs_world_files.specs.declared.file_world.FileWorld.{FileWorld}
use Rattle.pgs_world_files.specs.Joined.{Pasts, MayLeaveAll, LeftAllSince, ArePasts, moment_behind, left_now, only_now, since_earlier}
use Rattle.pgs_world_files.specs.Stops.{past_in}

-- What a writer and files tell: the bytes that were written, those that stand in a file, and what a stop may leave of both.
pub record Told (W H : Type 0) : Type 1 where
  pub tells_output : Bool
  pub written : W → Option (List ℕ)
  pub tells_bytes : Bool
  pub bytes : H → List ℕ
  -- the writer and the files tell what a stop may leave
  pub tells_stops : Bool
  pub output_past : W → Past
  pub file_past : H → Past

-- the bytes of both areas
pub record Bytes : Type 0 where
  pub a : List ℕ
  pub b : List ℕ

-- the bytes of a file that tells them; an area without a file has none
abbrev pub bytes_in : {H : Type 0} → Bool → (H → List ℕ) → Option H → List ℕ
bytes_in true contents (Some handle) = contents handle
bytes_in true contents None = []
bytes_in false contents handle = []

abbrev pub bytes_of : {H : Type 0} → Bool → (H → List ℕ) → AreaFiles H → Bytes
bytes_of tells contents areas = record { a = bytes_in tells contents areas.a.handle; b = bytes_in tells contents areas.b.handle }

abbrev pub shown_of : Bytes → Option (List ℕ) → Triple
shown_of bytes contents = record { a = bytes.a; b = bytes.b; output = unwrap_or contents [] }

abbrev pub pasts_of : {W H : Type 0} → (W → Past) → (H → Past) → FileWorld W H → Pasts
pasts_of output_past file_past world =
    record { a = past_in file_past world.areas.a.handle; b = past_in file_past world.areas.b.handle; output = output_past world.writer }

-- the moment at which the next call begins
abbrev pub moment_of : {W H : Type 0} → (W → Past) → (H → Past) → FileWorld W H → ℕ
moment_of output_past file_past world = moment_behind world.counts.calls (pasts_of output_past file_past world)

abbrev pub view_of : (tells_bytes : Bool) → Bytes → (tells_output : Bool) → Option (List ℕ) → (tells_stops : Bool) → Pasts → Counts → View
view_of tells_bytes bytes tells_output contents tells_stops pasts counts =
    record {
      honest = tells_stops;
      tells_bytes = tells_bytes;
      tells_output = tells_output;
      shown = shown_of bytes contents;
      moment = moment_behind counts.calls pasts;
      area_faults = counts.area_faults;
      put_faults = counts.put_faults;
      puts = counts.puts;
      may_leave = λ c. IsTrue tells_stops × MayLeaveAll pasts c;
      left_since = λ t c. IsTrue tells_stops × LeftAllSince pasts (moment_behind counts.calls pasts) t c;
    }

-- the same, by what the writer and the files tell
abbrev pub seen : {W H : Type 0} → Told W H → FileWorld W H → View
seen told world =
    view_of told.tells_bytes (bytes_of told.tells_bytes told.bytes world.areas) told.tells_output (told.written world.writer)
    told.tells_stops (pasts_of told.output_past told.file_past world) world.counts

pub timed_view : (tells_bytes : Bool) (bytes : Bytes) (tells_output : Bool) (contents : Option (List ℕ)) (tells_stops : Bool) (pasts : Pasts) (counts : Counts)
    → (IsTrue tells_stops → ArePasts pasts (unwrap_or contents [])) → IsTimed (view_of tells_bytes bytes tells_output contents tells_stops pasts counts)
timed_view tells_bytes bytes tells_output contents tells_stops pasts counts are =
    record {
      now = λ t c le left. (left.0, left_now pasts (unwrap_or contents []) (are left.0) counts.calls t c le left.1);
      only_now = λ c left. (left.0, only_now pasts (unwrap_or contents []) (are left.0) counts.calls c left.1);
      earlier = λ t u c le left. (left.0, since_earlier pasts (moment_behind counts.calls pasts) t u c le left.1);
      output = λ honest tells c left. (are honest).all c.output left.1.output;
    }

-- no bytes are told
abbrev pub untold_bytes : Option (List ℕ)
untold_bytes = None
