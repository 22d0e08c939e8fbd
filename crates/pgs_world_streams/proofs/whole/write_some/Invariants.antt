use Rattle.std.proofs.Common.{◌-◌, ◌<◌}
use Rattle.std.specs.Io.KnownBytes.{Keeps}
use Rattle.pgs_world_streams.specs.Tries.{AreInterrupted}
use Rattle.pgs_world_streams.proofs.whole.write_some.Given as goal

abbrev pub invariant-loop-answer : goal.invariant-loop-answer
invariant-loop-answer g l = record {
  few : l.tries < 1000;
  known : Keeps (g.W.Write.contents l.fn.writer) (g.W.Write.contents l.writer);
  interrupted : AreInterrupted (λ before answer after. g.W.SteadyWrite.write_gives l.moment before l.bytes answer after) l.fn.writer l.tries l.writer;
}

abbrev pub decreases-loop-answer : goal.decreases-loop-answer
decreases-loop-answer g l = 1000 - l.tries
