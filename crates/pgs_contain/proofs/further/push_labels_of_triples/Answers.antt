use Rattle.pgs_contain.proofs.Strangers.{labels_of_triples_more}
use Rattle.pgs_contain.proofs.further.push_labels_of_triples.Goals as goal

pub loop-triple-preserved : goal.loop-triple-preserved
loop-triple-preserved c =
    labels_of_triples_more c.args.triples.now c.loop-triple.triple-index c.triple-item.result c.args.all.now.items c.loop-triple.all.items c.push_labels_of.new.all.items
    c.loop-triple-test.true c.triple-item.is c.in_ok-push_labels_of.ensures c.loop-triple.invariant
