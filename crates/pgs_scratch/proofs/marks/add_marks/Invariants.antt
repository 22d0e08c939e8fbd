use Rattle.std.proofs.Common.{◌≡◌, ◌++◌, map, take}
use Rattle.pgs_scratch.specs.Marks.{mark_of}
use Rattle.pgs_scratch.proofs.marks.add_marks.Given as goal

abbrev pub invariant-loop-tuple : goal.invariant-loop-tuple
invariant-loop-tuple l = l.marks.items ≡ l.fn.marks.items ++ map mark_of (take l.tuple-index l.tuples)
