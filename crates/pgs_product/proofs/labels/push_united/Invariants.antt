use Rattle.std.proofs.Common.{◌≡◌, ◌+◌, ◌++◌, length}
use Rattle.pgs_product.specs.Merged.{united}
use Rattle.pgs_product.proofs.labels.push_united.Given as goal

abbrev pub invariant-loop-left : goal.invariant-loop-left
invariant-loop-left l = l.names.items ++ united l.left l.right ≡ l.fn.names.items ++ united l.first l.second

abbrev pub decreases-loop-left : goal.decreases-loop-left
decreases-loop-left l = length l.left + length l.right
