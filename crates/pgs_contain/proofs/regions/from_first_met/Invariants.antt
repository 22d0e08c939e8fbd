use Rattle.std.proofs.Common.{◌≡◌, ◌≤◌, true, length}
use Rattle.pgs_contain.specs.Regions.{Point, in_region, in_some_region}
use Rattle.pgs_contain.proofs.regions.from_first_met.Given as goal

abbrev pub invariant-loop-left : goal.invariant-loop-left
invariant-loop-left l =
    ((v : Point) → in_region l.region v ≡ true → in_some_region l.taken v ≡ in_some_region l.left v) × (length l.left ≤ length l.taken)

abbrev pub decreases-loop-left : goal.decreases-loop-left
decreases-loop-left l = length l.left
