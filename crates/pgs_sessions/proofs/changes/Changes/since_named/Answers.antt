use Rattle.pgs_sessions.specs.Changes.{last_in}
use Rattle.pgs_sessions.proofs.Lesser.{operation_more}
use Rattle.pgs_sessions.proofs.changes.Changes.since_named.Goals as goal

pub loop-op-preserved : goal.loop-op-preserved
loop-op-preserved c =
    operation_more (last_in c.args.self.now) c.args.began c.args.ops.now c.loop-op.op-index c.op-item.result c.loop-op-test.true c.op-item.is c.loop-op.found c.since_of.result c.lesser-found.result _ c.since_of.ensures c.lesser-found.ensures c.loop-op.invariant
