use Rattle.std.proofs.Common.{◌≡◌, ◌++◌, length}
use Rattle.pgs_standing.specs.Common.{plain_props}
use Rattle.pgs_standing.proofs.least.plain_rows.Given as goal

abbrev pub invariant-loop-left : goal.invariant-loop-left
invariant-loop-left l = l.rows.items ++ plain_props l.left ≡ plain_props l.keys

abbrev pub decreases-loop-left : goal.decreases-loop-left
decreases-loop-left l = length l.left
