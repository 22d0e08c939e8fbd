use Rattle.std.proofs.Common.{◌≡◌, map, take}
use Rattle.pgs_advice.proofs.unused.names_of.Given as goal

abbrev pub invariant-loop-graph : goal.invariant-loop-graph
invariant-loop-graph l = l.names ≡ map (λ graph. graph.now.name) (take l.graph-index l.graphs)
