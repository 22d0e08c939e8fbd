use Rattle.std.proofs.Common.{◌≡◌, ◌++◌, reverse, vec_len}
use Rattle.pgs_scratch.specs.Rows.{shared_values}
use Rattle.pgs_scratch.proofs.row_violations.add_shared_values.Given as goal

abbrev pub invariant-loop-violation : goal.invariant-loop-violation
invariant-loop-violation l = l.found.items ++ reverse l.shared.items ≡ l.fn.found.items ++ shared_values l.number l.rows

abbrev pub decreases-loop-violation : goal.decreases-loop-violation
decreases-loop-violation l = vec_len l.shared
