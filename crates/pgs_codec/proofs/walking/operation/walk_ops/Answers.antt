use Rattle.std.proofs.lemmas.Result.{err_from_is_err_and}
use Rattle.pgs_codec.specs.Reading.{many_at, op_at}
use Rattle.pgs_codec.specs.Unread.{end_of}
use Rattle.pgs_codec.proofs.Walks.{passed_on, not_passed, all_passed}
use Rattle.pgs_codec.proofs.walking.operation.walk_ops.Goals as goal

pub returns-in_err-walk_op : goal.returns-in_err-walk_op
returns-in_err-walk_op c =
    let p = err_from_is_err_and c.from_residual.result c.from_residual.ensures.1 in
    rw p.1 (not_passed op_at c.args.count c.loop.counter c.loop.reader.rest.now (end_of (many_at op_at c.args.count c.args.reader.now.rest.now)) c.loop-test.true c.in_err-walk_op.ensures c.loop.invariant)

pub loop-preserved : goal.loop-preserved
loop-preserved c = passed_on op_at c.args.count c.loop.counter c.loop.reader.rest.now (end_of (many_at op_at c.args.count c.args.reader.now.rest.now)) c.walk_op.new.reader.rest.now c.loop-test.true c.in_ok-walk_op.ensures c.loop.invariant

pub returns : goal.returns
returns c = all_passed op_at c.args.count c.loop.counter c.loop.reader.rest.now (end_of (many_at op_at c.args.count c.args.reader.now.rest.now)) c.loop-test.false c.loop.invariant
