use Rattle.std.proofs.Common.{map, refl}
use Rattle.pgs_resolve_declared.specs.Declarations.{node_in, edge_in}
use Rattle.pgs_resolve_declared.proofs.Walks.{none_yet, more_kept, all_kept}
use Rattle.pgs_resolve_declared.proofs.declarations.list_members.Goals as goal

pub loop-member-init : goal.loop-member-init
loop-member-init c = record {
  nodes = none_yet (map (λ type. type.now) c.args.nodes.now.items);
  edges = none_yet (map (λ type. type.now) c.args.edges.now.items);
}

pub loop-member-preserved : goal.loop-member-preserved
loop-member-preserved c = record {
  nodes = more_kept node_in (map (λ type. type.now) c.args.nodes.now.items) c.args.members.now c.loop-member.member-index c.member-item.result (map (λ type. type.now) c.loop-member.nodes.items) (map (λ type. type.now) c.list_member.new.nodes.items)
      c.loop-member-test.true c.member-item.is c.loop-member.invariant.nodes c.in_ok-list_member.ensures.nodes;
  edges = more_kept edge_in (map (λ type. type.now) c.args.edges.now.items) c.args.members.now c.loop-member.member-index c.member-item.result (map (λ type. type.now) c.loop-member.edges.items) (map (λ type. type.now) c.list_member.new.edges.items)
      c.loop-member-test.true c.member-item.is c.loop-member.invariant.edges c.in_ok-list_member.ensures.edges;
}

pub returns-clause-nodes : goal.returns-clause-nodes
returns-clause-nodes c =
    all_kept node_in (map (λ type. type.now) c.args.nodes.now.items) c.args.members.now c.args.members.now c.loop-member.member-index (map (λ type. type.now) c.loop-member.nodes.items) c.loop-member-test.false refl c.loop-member.invariant.nodes

pub returns-clause-edges : goal.returns-clause-edges
returns-clause-edges c =
    all_kept edge_in (map (λ type. type.now) c.args.edges.now.items) c.args.members.now c.args.members.now c.loop-member.member-index (map (λ type. type.now) c.loop-member.edges.items) c.loop-member-test.false refl c.loop-member.invariant.edges
