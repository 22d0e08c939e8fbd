use Rattle.std.proofs.Common.{◌&&◌, take}
use Rattle.pgs_conform.specs.Shapes.{in_shape, in_some}
use Rattle.pgs_standing.specs.Example.{by_nodes, NonePasses}
use Rattle.pgs_standing.proofs.apart.shares_some_pair.Given as goal

abbrev pub invariant-loop-other : goal.invariant-loop-other
invariant-loop-other l = NonePasses by_nodes (λ p. in_shape l.shape p && in_some (take l.other-index l.others) p)
