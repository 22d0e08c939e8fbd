use Rattle.std.proofs.Common.{◌≡◌, [], take}
use Rattle.std.specs.Prelude.{filter_map}
use Rattle.pgs_check.specs.Rows.{found_in}
use Rattle.pgs_check.proofs.rule.first_found.Given as goal

abbrev pub invariant-loop-row : goal.invariant-loop-row
invariant-loop-row l = [] ≡ filter_map (found_in l.rule l.number) (take l.row-index l.rows)
