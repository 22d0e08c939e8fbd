use Rattle.std.proofs.Common.{◌≡◌, ◌++◌, take}
use Rattle.std.specs.Prelude.{filter_map}
use Rattle.pgs_scratch.specs.Rows.{missing_value}
use Rattle.pgs_scratch.proofs.row_violations.add_missing_values.Given as goal

abbrev pub invariant-loop-row : goal.invariant-loop-row
invariant-loop-row l = l.found.items ≡ l.fn.found.items ++ filter_map (missing_value l.number) (take l.row-index l.rows)
