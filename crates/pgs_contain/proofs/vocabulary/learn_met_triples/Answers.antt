use Rattle.pgs_contain.specs.Known.{three_name_if_met}
use Rattle.pgs_contain.proofs.Known.{any_learnt}
use Rattle.pgs_contain.proofs.vocabulary.learn_met_triples.Goals as goal

pub loop-triple-preserved : goal.loop-triple-preserved
loop-triple-preserved c =
    any_learnt (λ t k. three_name_if_met c.args.labels.now k t) c.args.triples.now c.loop-triple.triple-index c.triple-item.result c.loop-triple.keys c.args.keys.now c.learn_three_if_met.new.keys
    c.loop-triple-test.true c.triple-item.is c.in_ok-learn_three_if_met.ensures c.loop-triple.invariant
