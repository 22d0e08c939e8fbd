use Rattle.std.proofs.Common.{◌≡◌, length}
use Rattle.pgs_contain.specs.Regions.{meets}
use Rattle.pgs_contain.proofs.regions.meets.Given as goal

abbrev pub invariant-loop-left : goal.invariant-loop-left
invariant-loop-left l = meets l.region l.other ≡ meets l.left l.right

abbrev pub decreases-loop-left : goal.decreases-loop-left
decreases-loop-left l = length l.left
