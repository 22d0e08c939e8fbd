use Rattle.std.proofs.Common.{◌≡◌, ◌++◌, map, take}
use Rattle.std.specs.List.{filter_map}
use Rattle.pgs_resolve_declared.specs.Declarations.{node_in, edge_in}
use Rattle.pgs_resolve_declared.proofs.declarations.list_members.Given as goal

abbrev pub invariant-loop-member : goal.invariant-loop-member
invariant-loop-member l = record {
  nodes : map (λ type. type.now) l.nodes.items ≡ map (λ type. type.now) l.fn.nodes.items ++ filter_map node_in (take l.member-index l.members);
  edges : map (λ type. type.now) l.edges.items ≡ map (λ type. type.now) l.fn.edges.items ++ filter_map edge_in (take l.member-index l.members);
}
