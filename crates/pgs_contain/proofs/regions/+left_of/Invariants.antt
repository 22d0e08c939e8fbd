use Rattle.std.proofs.Common.{◌≡◌, true, length, take}
use Rattle.pgs_contain.specs.Regions.{Point, in_some_region}
use Rattle.pgs_contain.proofs.regions.+left_of.Given as goal

abbrev pub decreases-left_of : goal.decreases-left_of
decreases-left_of l = length l.taken.now

abbrev pub invariant-loop-part : goal.invariant-loop-part
invariant-loop-part l = (v : Point) → in_some_region (take l.part-index l.part-items) v ≡ true → in_some_region l.later v ≡ true
