use Rattle.std.proofs.Common.{◌≡◌, ◌≤◌, List, length, drop, map}
use Rattle.pgs_syntax.specs.Width.{Width, width_of}
use Rattle.pgs_width.specs.Capped.{capped_width, both_of, either_of}
use Rattle.pgs_width.proofs.specification.+widths.Given as goal

abbrev pub invariant-width_of_all-loop-left : goal.invariant-width_of_all-loop-left
invariant-width_of_all-loop-left l = record {
  within : l.left ≤ length l.parts;
  so_far : (exact : List Width) → l.named ≡ map capped_width exact → l.width ≡ capped_width (both_of (map (width_of exact) (drop l.left l.parts)));
}

abbrev pub decreases-width_of_all-loop-left : goal.decreases-width_of_all-loop-left
decreases-width_of_all-loop-left l = l.left

abbrev pub invariant-width_of_some-loop-left : goal.invariant-width_of_some-loop-left
invariant-width_of_some-loop-left l = record {
  within : l.left ≤ length l.parts;
  so_far : (exact : List Width) → l.named ≡ map capped_width exact → l.width ≡ capped_width (either_of (map (width_of exact) (drop l.left l.parts)));
}

abbrev pub decreases-width_of_some-loop-left : goal.decreases-width_of_some-loop-left
decreases-width_of_some-loop-left l = l.left
