use Rattle.std.proofs.Common.{◌≡◌, length}
use Rattle.pgs_contain.specs.Regions.{lies_in}
use Rattle.pgs_contain.proofs.regions.lies_in.Given as goal

abbrev pub invariant-loop-left : goal.invariant-loop-left
invariant-loop-left l = lies_in l.region l.other ≡ lies_in l.left l.right

abbrev pub decreases-loop-left : goal.decreases-loop-left
decreases-loop-left l = length l.left
