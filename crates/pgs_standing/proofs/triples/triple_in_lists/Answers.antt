use Rattle.pgs_standing.proofs.Found.{triple_more}
use Rattle.pgs_standing.proofs.triples.triple_in_lists.Goals as goal

pub loop-shapes-preserved : goal.loop-shapes-preserved
loop-shapes-preserved c =
    triple_more c.args.triples.now c.args.others.now c.args.nodes.now c.loop-shapes.shapes-index c.shapes-item.result c.loop-shapes.found c.in_ok-next.next
    c.smaller_triple-found.result c.loop-shapes-test.true c.shapes-item.is c.smaller_triple-found.ensures c.loop-shapes.invariant c.in_ok-next.ensures
