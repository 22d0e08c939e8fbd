use Rattle.std.proofs.Common.{◌-◌, ◌≤◌, length}
use Rattle.pgs_world_streams.specs.Whole.{HasWritten}
use Rattle.pgs_world_files.proofs.area_file.write_within.Given as goal

abbrev pub invariant-loop-done : goal.invariant-loop-done
invariant-loop-done g l = record {
  within : l.done ≤ length l.bytes;
  written : HasWritten (g.H.Handle.write_gives l.moment) l.fn.handle l.at l.fn.bytes l.done l.handle;
}

abbrev pub decreases-loop-done : goal.decreases-loop-done
decreases-loop-done g l = length l.bytes - l.done
