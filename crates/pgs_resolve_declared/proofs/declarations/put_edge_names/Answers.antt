use Rattle.pgs_resolve_declared.proofs.Walks.{none_yet, more_mapped, all_mapped}
use Rattle.pgs_resolve_declared.proofs.declarations.put_edge_names.Goals as goal

pub loop-edge-init : goal.loop-edge-init
loop-edge-init c = none_yet c.args.names.now

pub loop-edge-preserved : goal.loop-edge-preserved
loop-edge-preserved c =
    more_mapped (λ type. type.now.name) c.args.names.now c.args.edges.now c.loop-edge.edge-index c.edge-item.result c.loop-edge.names c.push.new.self c.in_ok-copy.field-0
    c.loop-edge-test.true c.edge-item.is c.loop-edge.invariant c.in_ok-copy.ensures c.in_ok-push.ensures.ok

pub returns : goal.returns
returns c =
    all_mapped (λ type. type.now.name) c.args.names.now c.args.edges.now c.loop-edge.edge-index c.loop-edge.names c.loop-edge-test.false c.loop-edge.invariant
