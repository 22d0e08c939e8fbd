use Rattle.std.proofs.Common.{◌≡◌, take}
use Rattle.std.specs.Prelude.{flat_map}
use Rattle.pgs_scratch.specs.Marks.{marks_of}
use Rattle.pgs_scratch.proofs.marks.row_marks.Given as goal

abbrev pub invariant-loop-row : goal.invariant-loop-row
invariant-loop-row l = l.marks.items ≡ flat_map marks_of (take l.row-index l.rows)
