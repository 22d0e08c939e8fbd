use Rattle.pgs_contain.proofs.Known.{learnt_name}
use Rattle.pgs_contain.proofs.vocabulary.learn_names.Goals as goal

pub loop-name-preserved : goal.loop-name-preserved
loop-name-preserved c =
    learnt_name c.args.names.now c.loop-name.name-index c.name-item.result c.in_ok-name.name c.loop-name.known c.args.known.now c.insert.new.self
    c.loop-name-test.true c.name-item.is c.in_ok-name.ensures c.in_ok-insert.ensures.ok c.loop-name.invariant
