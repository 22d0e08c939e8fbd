use Rattle.std.proofs.Common.{◌≡◌, map, take}
use Rattle.std.specs.List.{flat_map}
use Rattle.pgs_resolve.specs.Guard.{name_of, each_once}
use Rattle.pgs_resolve.proofs.guard.member_names.Given as goal

abbrev pub invariant-loop-graph : goal.invariant-loop-graph
invariant-loop-graph l = l.names ≡ each_once (map name_of (flat_map (λ graph. graph.now.members) (take l.graph-index l.graphs)))
