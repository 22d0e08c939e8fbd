-- What a call on a world over files left where it failed: the file that it failed on and the cause that is kept; or the writer.
use Rattle.std.specs.Prelude.{◌≡◌, ◌⊎◌, ℕ, ◌-◌, ◌^◌, ◌≤◌, Bool, true, List, Option, Some, None, Result, ⊤}
use Rattle.std.specs.Option.{is_some}
use Rattle.std.specs.declared.io.Error.{Error}
use Rattle.pgs_world.specs.declared.area.Area.{Area}
use Rattle.pgs_world_files.specs.declared.area_files.AreaFiles.{AreaFiles}
use Rattle.pgs_world_files.specs.declared.cause.FileCause.{FileCause}
use Rattle.pgs_world_files.specs.declared.file_world.FileWorld.{FileWorld}
use Rattle.pgs_world_files.specs.Causes.{CallFails, LengthFails, ReadFails, WriteFails}
use Rattle.pgs_world_files.specs.FailedFiles.{cause_in}
use Rattle.pgs_world_files.specs.Handles.{handle_in}
use Rattle.pgs_world_streams.specs.Given.{BareCall, PlacedCall, PlainCall}
use Rattle.pgs_world_streams.specs.Pieces.{FailsWith}

-- what each call on an open file gives, which began at a moment
pub record FileCalls (H : Type 0) : Type 1 where
  pub lengths : ℕ → H → Result ℕ Error → H → Type 0
  pub reads : ℕ → PlacedCall H
  pub writes : ℕ → PlacedCall H
  pub cuts : ℕ → H → ℕ → Bool → H → Type 0
  pub syncs : ℕ → BareCall H

-- the last call on a file failed, which began at some moment, for this cause
pub data HasFailedFor {H : Type 0} (calls : FileCalls H) (cause : FileCause) (file : H) : Type 0 where
  at_length : (t : ℕ) (old : H) → LengthFails (calls.lengths t) old cause file → HasFailedFor calls cause file
  at_read : (t : ℕ) (old : H) (at : ℕ) (buf : List ℕ) → ReadFails (calls.reads t) old at buf cause file → HasFailedFor calls cause file
  at_write : (t : ℕ) (old : H) (at : ℕ) (bytes : List ℕ) → WriteFails (calls.writes t) old at bytes cause file → HasFailedFor calls cause file
  at_cut : (t : ℕ) (old : H) (len : ℕ) → CallFails (λ before succeeds after. calls.cuts t before len succeeds after) old cause file → HasFailedFor calls cause file
  at_sync : (t : ℕ) (old : H) → CallFails (calls.syncs t) old cause file → HasFailedFor calls cause file

-- a cause is kept, for which the last call on the file failed; without a file each call fails
abbrev pub IsFailed : {H : Type 0} → FileCalls H → Option H → Option FileCause → Type 0
IsFailed calls (Some file) (Some cause) = HasFailedFor calls cause file
IsFailed calls (Some file) None = ⊥
IsFailed calls None cause = ⊤

-- so of the area whose call was the last that failed
abbrev pub HasFailedArea : {H : Type 0} → FileCalls H → Option Area → AreaFiles H → Type 0
HasFailedArea calls (Some area) areas = IsFailed calls (handle_in area areas) (cause_in area areas)
HasFailedArea calls None areas = ⊥

-- the last piece wasn't written whole and flushed, at some moment, and a cause is kept; or no more puts can be counted
abbrev pub HasFailedPut : {W H : Type 0} → (ℕ → PlainCall W) → (ℕ → BareCall W) → FileWorld W H → Type 0
HasFailedPut {W} writes flushes world =
    (world.counts.puts ≡ 2 ^ 64 - 1)
    ⊎ ((is_some world.put_cause ≡ true) × (t : ℕ) × (old : W) × (piece : List ℕ) × (error : Error) × FailsWith (writes t) (flushes t) old piece error world.writer)

-- the last call on the world failed; where no more moments can be counted, each does
abbrev pub HasFailed : {W H : Type 0} → FileCalls H → (ℕ → PlainCall W) → (ℕ → BareCall W) → FileWorld W H → Type 0
HasFailed calls writes flushes world =
    HasFailedArea calls world.areas.failed world.areas ⊎ (HasFailedPut writes flushes world ⊎ (2 ^ 64 - 1 ≤ world.counts.calls))
