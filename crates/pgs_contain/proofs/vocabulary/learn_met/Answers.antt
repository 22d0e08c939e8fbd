use Rattle.pgs_contain.specs.Known.{names_if_met}
use Rattle.pgs_contain.proofs.Known.{any_learnt}
use Rattle.pgs_contain.proofs.vocabulary.learn_met.Goals as goal

pub loop-shape-preserved : goal.loop-shape-preserved
loop-shape-preserved c =
    any_learnt (λ s k. names_if_met c.args.labels.now k s) c.args.shapes.now c.loop-shape.shape-index c.shape-item.result c.loop-shape.keys c.args.keys.now c.learn_if_met.new.keys
    c.loop-shape-test.true c.shape-item.is c.in_ok-learn_if_met.ensures c.loop-shape.invariant
