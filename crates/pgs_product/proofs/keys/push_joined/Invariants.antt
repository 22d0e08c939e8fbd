use Rattle.std.proofs.Common.{◌≡◌, ◌+◌, ◌++◌, length}
use Rattle.pgs_product.specs.Merged.{merged}
use Rattle.pgs_product.proofs.keys.push_joined.Given as goal

abbrev pub invariant-loop-left : goal.invariant-loop-left
invariant-loop-left l = l.keys.items ++ merged l.first_free l.second_free l.left l.right ≡ l.fn.keys.items ++ merged l.first_free l.second_free l.first l.second

abbrev pub decreases-loop-left : goal.decreases-loop-left
decreases-loop-left l = length l.left + length l.right
