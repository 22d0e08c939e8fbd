use Rattle.std.proofs.Common.{◌≡◌, ◌+◌}
use Rattle.pgs_graph.proofs.read.tick_each.Given as goal

abbrev pub invariant-loop-left : goal.invariant-loop-left
invariant-loop-left g l = l.steps + l.left ≡ l.initial.steps + l.times

abbrev pub decreases-loop-left : goal.decreases-loop-left
decreases-loop-left g l = l.left
