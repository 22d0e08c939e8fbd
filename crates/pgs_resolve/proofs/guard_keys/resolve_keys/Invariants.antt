use Rattle.std.proofs.Common.{◌≡◌, map, take}
use Rattle.std.specs.List.{flat_map}
use Rattle.pgs_resolve_keys.specs.Patterns.{resolved_key}
use Rattle.pgs_resolve.proofs.guard_keys.resolve_keys.Given as goal

abbrev pub invariant-loop-graph : goal.invariant-loop-graph
invariant-loop-graph l = l.keys.items ≡ map (resolved_key l.numbering) (flat_map (λ graph. graph.now.keys) (take l.graph-index l.graphs))
