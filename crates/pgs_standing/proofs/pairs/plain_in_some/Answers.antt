use Rattle.pgs_standing.proofs.Found.{other_more}
use Rattle.pgs_standing.proofs.pairs.plain_in_some.Goals as goal

pub loop-other-preserved : goal.loop-other-preserved
loop-other-preserved c =
    other_more c.args.shape.now c.args.others.now c.loop-other.other-index c.other-item.result c.loop-other.found c.in_ok-next.next c.smaller_pair-found.result
    c.loop-other-test.true c.other-item.is c.smaller_pair-found.ensures c.loop-other.invariant c.in_ok-next.ensures
