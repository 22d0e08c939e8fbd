use Rattle.std.proofs.Common.{◌≡◌, map, take}
use Rattle.std.specs.List.{flat_map}
use Rattle.pgs_key_causes.proofs.guide.keys_of.Given as goal

abbrev pub invariant-loop-graph : goal.invariant-loop-graph
invariant-loop-graph l = map (λ key. key.now) l.keys.items ≡ flat_map (λ graph. graph.now.keys) (take l.graph-index l.graphs)
