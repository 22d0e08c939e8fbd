use Rattle.std.proofs.Common.{◌≡◌, ◌++◌, map}
use Rattle.pgs_scratch.specs.Judged.{indexed_row}
use Rattle.pgs_scratch.proofs.judging.add_rows.Given as goal

abbrev pub invariant-loop-row : goal.invariant-loop-row
invariant-loop-row l = record { so_far : l.rows.items ++ map (indexed_row l.number) l.row-iterator.rest.items ≡ l.fn.rows.items ++ map (indexed_row l.number) l.fn.own.items }
