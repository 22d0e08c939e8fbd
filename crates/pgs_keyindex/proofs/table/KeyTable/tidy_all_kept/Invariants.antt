use Rattle.pgs_keyindex.specs.Table.{SameRows}
use Rattle.pgs_keyindex.proofs.table.KeyTable.tidy_all_kept.Given as goal

abbrev pub invariant-loop-place : goal.invariant-loop-place
invariant-loop-place l = SameRows l.fn.self l.self
