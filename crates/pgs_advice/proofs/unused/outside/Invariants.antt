use Rattle.std.proofs.Common.{◌≡◌, map, filter, take}
use Rattle.pgs_advice.specs.Unused.{is_outside}
use Rattle.pgs_advice.proofs.unused.outside.Given as goal

abbrev pub invariant-loop-graph : goal.invariant-loop-graph
invariant-loop-graph l =
    map (λ graph. graph.now) l.unused.items ≡ filter (is_outside l.names) (map (λ graph. graph.now) (take l.graph-index l.graphs))
