use Rattle.pgs_standing.proofs.Found.{shape_more}
use Rattle.pgs_standing.proofs.pairs.plain_in_lists.Goals as goal

pub loop-shape-preserved : goal.loop-shape-preserved
loop-shape-preserved c =
    shape_more c.args.shapes.now c.args.others.now c.loop-shape.shape-index c.shape-item.result c.loop-shape.found c.in_ok-next.next c.smaller_pair-found.result
    c.loop-shape-test.true c.shape-item.is c.smaller_pair-found.ensures c.loop-shape.invariant c.in_ok-next.ensures
