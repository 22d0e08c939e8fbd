use Rattle.std.proofs.Common.{map, refl}
use Rattle.pgs_resolve_declared.proofs.Walks.{more_of, all_of}
use Rattle.pgs_advice.proofs.Gathered.{lent, parts_of_node}
use Rattle.pgs_advice.proofs.words.push_nodes.Goals as goal

pub loop-node-preserved : goal.loop-node-preserved
loop-node-preserved c =
    more_of parts_of_node (map lent c.args.parts.now.items) c.args.types.now c.loop-node.node-index c.node-item.result (map lent c.loop-node.parts.items)
    (map lent c.push_parts.new.parts.items) c.loop-node-test.true c.node-item.is c.loop-node.invariant c.in_ok-push_parts.ensures

pub returns : goal.returns
returns c =
    all_of parts_of_node (map lent c.args.parts.now.items) c.args.types.now c.args.types.now c.loop-node.node-index (map lent c.loop-node.parts.items)
    c.loop-node-test.false refl c.loop-node.invariant
