use Rattle.pgs_standing.proofs.Found.{no_other_triples, other_triple_more}
use Rattle.pgs_standing.proofs.triples.triple_in_some.Goals as goal

pub loop-other-init : goal.loop-other-init
loop-other-init c = no_other_triples c.args.shapes.now c.args.nodes.now

pub loop-other-preserved : goal.loop-other-preserved
loop-other-preserved c =
    other_triple_more c.args.shapes.now c.args.others.now c.args.nodes.now c.loop-other.other-index c.other-item.result c.loop-other.found c.in_ok-next.next
    c.smaller_triple-found.result c.loop-other-test.true c.other-item.is c.smaller_triple-found.ensures c.loop-other.invariant c.in_ok-next.ensures
