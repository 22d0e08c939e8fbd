use Rattle.std.proofs.Common.{◌≡◌, ◌++◌, take}
use Rattle.std.specs.Prelude.{filter_map}
use Rattle.pgs_scratch.specs.Rows.{several_values}
use Rattle.pgs_scratch.proofs.row_violations.add_several_values.Given as goal

abbrev pub invariant-loop-row : goal.invariant-loop-row
invariant-loop-row l = l.found.items ≡ l.fn.found.items ++ filter_map (several_values l.number) (take l.row-index l.rows)
