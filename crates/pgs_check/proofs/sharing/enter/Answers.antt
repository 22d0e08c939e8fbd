use Rattle.std.proofs.Common.{refl}
use Rattle.pgs_keyindex.proofs.Entered.{more_entered}
use Rattle.pgs_check.proofs.sharing.enter.Goals as goal

pub loop-tuple-preserved : goal.loop-tuple-preserved
loop-tuple-preserved c =
    more_entered c.args.tuples.now c.args.tuples.now refl c.loop-tuple.tuple-index c.loop-tuple-test.true
    c.tuple-item.result c.tuple-item.is c.args.table.now c.loop-tuple.table c.insert.new.self c.args.elem c.loop-tuple.invariant c.in_ok-insert.ensures.updates
