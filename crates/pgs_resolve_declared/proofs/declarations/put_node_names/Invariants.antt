use Rattle.std.proofs.Common.{◌≡◌, ◌++◌, map, take}
use Rattle.pgs_resolve_declared.proofs.declarations.put_node_names.Given as goal

abbrev pub invariant-loop-node : goal.invariant-loop-node
invariant-loop-node l = l.names ≡ l.fn.names ++ map (λ type. type.now.name) (take l.node-index l.nodes)
