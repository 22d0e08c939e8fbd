use Rattle.std.proofs.Common.{◌≡◌, ◌++◌, map, take}
use Rattle.pgs_resolve_declared.proofs.declarations.put_graph_names.Given as goal

abbrev pub invariant-loop-graph : goal.invariant-loop-graph
invariant-loop-graph l = l.names ≡ l.fn.names ++ map (λ type. type.now.name) (take l.graph-index l.graphs)
