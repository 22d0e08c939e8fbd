use Rattle.std.proofs.Common.{map, refl}
use Rattle.pgs_resolve_declared.proofs.Walks.{more_of, all_of}
use Rattle.pgs_advice.proofs.Gathered.{lent, parts_of_middle}
use Rattle.pgs_advice.proofs.words.push_middles.Goals as goal

pub loop-edge-preserved : goal.loop-edge-preserved
loop-edge-preserved c =
    more_of parts_of_middle (map lent c.args.parts.now.items) c.args.types.now c.loop-edge.edge-index c.edge-item.result (map lent c.loop-edge.parts.items)
    (map lent c.push_parts.new.parts.items) c.loop-edge-test.true c.edge-item.is c.loop-edge.invariant c.in_ok-push_parts.ensures

pub returns : goal.returns
returns c =
    all_of parts_of_middle (map lent c.args.parts.now.items) c.args.types.now c.args.types.now c.loop-edge.edge-index (map lent c.loop-edge.parts.items)
    c.loop-edge-test.false refl c.loop-edge.invariant
