use Rattle.std.proofs.Common.{◌&&◌, take}
use Rattle.pgs_conform.specs.Shapes.{in_triple, in_some_triple}
use Rattle.pgs_standing.specs.Example.{by_edges, NonePasses}
use Rattle.pgs_standing.proofs.apart.shares_some_triple.Given as goal

abbrev pub invariant-loop-other : goal.invariant-loop-other
invariant-loop-other l = NonePasses by_edges (λ t. in_triple l.shapes t && in_some_triple (take l.other-index l.others) t)
