use Rattle.std.proofs.Common.{◌≡◌, ◌++◌, map, take}
use Rattle.pgs_resolve_declared.proofs.declarations.put_edge_names.Given as goal

abbrev pub invariant-loop-edge : goal.invariant-loop-edge
invariant-loop-edge l = l.names ≡ l.fn.names ++ map (λ type. type.now.name) (take l.edge-index l.edges)
