use Rattle.std.proofs.Common.{◌≡◌, ◌++◌, take}
use Rattle.std.specs.Prelude.{filter_map}
use Rattle.pgs_scratch.specs.Rows.{count_of_row}
use Rattle.pgs_scratch.proofs.row_violations.add_counts.Given as goal

abbrev pub invariant-loop-row : goal.invariant-loop-row
invariant-loop-row l = l.found.items ≡ l.fn.found.items ++ filter_map (count_of_row l.number l.bounds) (take l.row-index l.rows)
