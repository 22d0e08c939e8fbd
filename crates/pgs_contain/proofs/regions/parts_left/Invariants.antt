use Rattle.std.proofs.Common.{◌≡◌, ◌&&◌, ◌||◌, not, ◌++◌, length}
use Rattle.pgs_contain.specs.Regions.{Point, in_region, in_some_region}
use Rattle.pgs_contain.proofs.regions.parts_left.Given as goal

abbrev pub invariant-loop-left : goal.invariant-loop-left
invariant-loop-left l =
    ((v : Point) → (in_region l.region v && not (in_region l.taken v))
    ≡ (in_some_region l.parts.items v || (in_region (l.kept.items ++ l.left) v && not (in_region (l.kept.items ++ l.right) v)))) × (length l.left ≡ length l.right)

abbrev pub decreases-loop-left : goal.decreases-loop-left
decreases-loop-left l = length l.left
