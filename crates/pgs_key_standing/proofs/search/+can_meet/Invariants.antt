use Rattle.std.proofs.Common.{length, take}
use Rattle.pgs_key_standing.proofs.Ways.{NoneOf}
use Rattle.pgs_key_standing.proofs.search.+can_meet.Given as goal

abbrev pub decreases-can_meet : goal.decreases-can_meet
decreases-can_meet l = length l.demands.now

abbrev pub invariant-loop-way : goal.invariant-loop-way
invariant-loop-way l = NoneOf (take l.way-index l.way-items) l.later
