use Rattle.std.proofs.Common.{◌-◌, ◌≤◌, length, take}
use Rattle.std.specs.Io.KnownBytes.{Appends}
use Rattle.pgs_world_streams.specs.Whole.{HasWritten}
use Rattle.pgs_world_streams.specs.Pieces.{placeless}
use Rattle.pgs_world_streams.proofs.whole.write_whole.Given as goal

abbrev pub invariant-loop-done : goal.invariant-loop-done
invariant-loop-done g l = record {
  within : l.done ≤ length l.piece;
  known : Appends (g.W.Write.contents l.fn.writer) (g.W.Write.contents l.writer) (take l.done l.fn.piece);
  written : HasWritten (placeless (g.W.SteadyWrite.write_gives l.moment)) l.fn.writer 0 l.fn.piece l.done l.writer;
}

abbrev pub decreases-loop-done : goal.decreases-loop-done
decreases-loop-done g l = length l.piece - l.done
