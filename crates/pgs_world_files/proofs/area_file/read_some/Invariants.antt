use Rattle.std.proofs.Common.{◌-◌, ◌<◌, ℕ, List}
use Rattle.pgs_world_streams.specs.Tries.{AreInterrupted}
use Rattle.pgs_world_files.proofs.area_file.read_some.Given as goal

abbrev pub invariant-loop-answer : goal.invariant-loop-answer
invariant-loop-answer g l = record {
  few : l.tries < 1000;
  interrupted : AreInterrupted (λ before answer after. (left : List ℕ) × g.H.Handle.read_gives l.moment before l.at left answer after) l.fn.handle l.tries l.handle;
}

abbrev pub decreases-loop-answer : goal.decreases-loop-answer
decreases-loop-answer g l = 1000 - l.tries
