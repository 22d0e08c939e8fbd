use Rattle.pgs_resolve_declared.proofs.Walks.{none_yet, more_mapped, all_mapped}
use Rattle.pgs_resolve_declared.proofs.declarations.put_node_names.Goals as goal

pub loop-node-init : goal.loop-node-init
loop-node-init c = none_yet c.args.names.now

pub loop-node-preserved : goal.loop-node-preserved
loop-node-preserved c =
    more_mapped (λ type. type.now.name) c.args.names.now c.args.nodes.now c.loop-node.node-index c.node-item.result c.loop-node.names c.push.new.self c.in_ok-copy.field-0
    c.loop-node-test.true c.node-item.is c.loop-node.invariant c.in_ok-copy.ensures c.in_ok-push.ensures.ok

pub returns : goal.returns
returns c =
    all_mapped (λ type. type.now.name) c.args.names.now c.args.nodes.now c.loop-node.node-index c.loop-node.names c.loop-node-test.false c.loop-node.invariant
