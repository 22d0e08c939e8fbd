use Rattle.std.proofs.Common.{◌≡◌, take}
use Rattle.std.specs.List.{flat_map}
use Rattle.pgs_resolve_declared.specs.Refused.{marks_of}
use Rattle.pgs_resolve_declared.proofs.duplicates.all_marks.Given as goal

abbrev pub invariant-loop-statement : goal.invariant-loop-statement
invariant-loop-statement l = l.marks.items ≡ flat_map marks_of (take l.statement-index l.statement-items)
