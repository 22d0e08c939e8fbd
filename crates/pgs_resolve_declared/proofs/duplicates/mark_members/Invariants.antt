use Rattle.std.proofs.Common.{◌≡◌, ◌++◌, take}
use Rattle.std.specs.List.{flat_map}
use Rattle.pgs_resolve_declared.specs.Refused.{marks_of_member}
use Rattle.pgs_resolve_declared.proofs.duplicates.mark_members.Given as goal

abbrev pub invariant-loop-member : goal.invariant-loop-member
invariant-loop-member l = l.marks.items ≡ l.fn.marks.items ++ flat_map marks_of_member (take l.member-index l.members)
