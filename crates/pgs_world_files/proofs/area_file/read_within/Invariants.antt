use Rattle.std.proofs.Common.{◌-◌, ◌≤◌, length, take}
use Rattle.pgs_world_streams.specs.Whole.{HasRead}
use Rattle.pgs_world_files.proofs.area_file.read_within.Given as goal

abbrev pub invariant-loop-done : goal.invariant-loop-done
invariant-loop-done g l = record {
  within : l.done ≤ length l.buf;
  given : HasRead (g.H.Handle.read_gives l.moment) l.fn.handle l.at (take l.done l.buf) l.handle;
}

abbrev pub decreases-loop-done : goal.decreases-loop-done
decreases-loop-done g l = length l.buf - l.done
