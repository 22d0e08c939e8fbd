use Rattle.std.proofs.Common.{◌≡◌, ◌++◌, length}
use Rattle.pgs_contain.specs.Rows.{plain_rows}
use Rattle.pgs_contain.proofs.witness.plain_rows.Given as goal

abbrev pub invariant-loop-left : goal.invariant-loop-left
invariant-loop-left l = l.rows.items ++ plain_rows l.left l.right ≡ plain_rows l.keys l.region

abbrev pub decreases-loop-left : goal.decreases-loop-left
decreases-loop-left l = length l.left
