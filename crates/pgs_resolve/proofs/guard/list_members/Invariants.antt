use Rattle.std.proofs.Common.{◌≡◌, ℕ, List, ◌++◌, map, take}
use Rattle.pgs_resolve.specs.Guard.{name_of, each_once}
use Rattle.pgs_resolve.proofs.guard.list_members.Given as goal

abbrev pub invariant-loop-member : goal.invariant-loop-member
invariant-loop-member l = (before : List (List ℕ)) → l.fn.names ≡ each_once before → l.names ≡ each_once (before ++ map name_of (take l.member-index l.members))
