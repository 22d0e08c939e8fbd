use Rattle.pgs_contain.proofs.Known.{learnt_key}
use Rattle.pgs_contain.proofs.vocabulary.learn_keys.Goals as goal

pub loop-key-preserved : goal.loop-key-preserved
loop-key-preserved c =
    learnt_key c.args.keys.now c.loop-key.key-index c.key-item.result c.in_ok-name.name c.loop-key.known c.args.known.now c.insert.new.self
    c.loop-key-test.true c.key-item.is c.in_ok-name.ensures c.in_ok-insert.ensures.ok c.loop-key.invariant
