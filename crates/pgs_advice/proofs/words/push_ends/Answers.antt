use Rattle.std.proofs.Common.{map, refl}
use Rattle.pgs_advice.specs.Parts.{parts_of}
use Rattle.pgs_resolve_declared.proofs.Walks.{both_put, more_of, all_of}
use Rattle.pgs_advice.proofs.Gathered.{lent, parts_of_ends}
use Rattle.pgs_advice.proofs.words.push_ends.Goals as goal

pub loop-edge-preserved : goal.loop-edge-preserved
loop-edge-preserved c =
    let type = c.edge-item.result in
    more_of parts_of_ends (map lent c.args.parts.now.items) c.args.types.now c.loop-edge.edge-index type (map lent c.loop-edge.parts.items)
    (map lent c.push_parts-in-loop-edge.new.parts.items) c.loop-edge-test.true c.edge-item.is c.loop-edge.invariant
    (both_put (map lent c.loop-edge.parts.items) (map lent c.push_parts.new.parts.items) (map lent c.push_parts-in-loop-edge.new.parts.items) (parts_of type.source) (parts_of type.target)
    c.in_ok-push_parts.ensures c.in_ok-push_parts-2.ensures)

pub returns : goal.returns
returns c =
    all_of parts_of_ends (map lent c.args.parts.now.items) c.args.types.now c.args.types.now c.loop-edge.edge-index (map lent c.loop-edge.parts.items)
    c.loop-edge-test.false refl c.loop-edge.invariant
