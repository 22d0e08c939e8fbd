use Rattle.std.proofs.Common.{◌≡◌}
use Rattle.pgs_key_causes.specs.Walk.{walk_on, walk}
use Rattle.pgs_key_causes.proofs.walk.walk.Given as goal

abbrev pub invariant-loop-left : goal.invariant-loop-left
invariant-loop-left l = walk_on l.places l.left l.visits.items ≡ walk l.places

abbrev pub decreases-loop-left : goal.decreases-loop-left
decreases-loop-left l = l.left
