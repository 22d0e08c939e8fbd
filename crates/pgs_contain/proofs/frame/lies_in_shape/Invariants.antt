use Rattle.std.proofs.Common.{◌≡◌, length}
use Rattle.pgs_contain.specs.Frames.{options_of}
use Rattle.pgs_contain.specs.Regions.{lies_in}
use Rattle.pgs_contain.proofs.frame.lies_in_shape.Given as goal

abbrev pub invariant-loop-left : goal.invariant-loop-left
invariant-loop-left l = lies_in l.region (options_of l.shape l.keys) ≡ lies_in l.left (options_of l.shape l.names)

abbrev pub decreases-loop-left : goal.decreases-loop-left
decreases-loop-left l = length l.left
