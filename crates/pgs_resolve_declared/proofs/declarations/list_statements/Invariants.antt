use Rattle.std.proofs.Common.{◌≡◌, ◌++◌, map, take}
use Rattle.std.specs.List.{filter_map, flat_map}
use Rattle.pgs_resolve_declared.specs.Declarations.{declared_in, node_in, edge_in, graph_in}
use Rattle.pgs_resolve_declared.proofs.declarations.list_statements.Given as goal

abbrev pub invariant-loop-statement : goal.invariant-loop-statement
invariant-loop-statement l = record {
  nodes : map (λ type. type.now) l.nodes.items ≡ map (λ type. type.now) l.fn.nodes.items ++ filter_map node_in (flat_map declared_in (take l.statement-index l.statements));
  edges : map (λ type. type.now) l.edges.items ≡ map (λ type. type.now) l.fn.edges.items ++ filter_map edge_in (flat_map declared_in (take l.statement-index l.statements));
  graphs : map (λ type. type.now) l.graphs.items ≡ map (λ type. type.now) l.fn.graphs.items ++ filter_map graph_in (take l.statement-index l.statements);
}
