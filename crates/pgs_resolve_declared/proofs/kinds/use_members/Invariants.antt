use Rattle.std.proofs.Common.{◌≡◌, ◌++◌, take}
use Rattle.std.specs.List.{flat_map}
use Rattle.pgs_resolve_declared.specs.Refused.{uses_in_member}
use Rattle.pgs_resolve_declared.proofs.kinds.use_members.Given as goal

abbrev pub invariant-loop-member : goal.invariant-loop-member
invariant-loop-member l = l.uses.items ≡ l.fn.uses.items ++ flat_map uses_in_member (take l.member-index l.members)
