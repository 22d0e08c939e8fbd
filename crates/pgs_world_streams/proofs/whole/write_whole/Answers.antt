use Rattle.std.proofs.Common.{rules, inr, refl, arith, sym, subst}
use Rattle.std.proofs.lemmas.Result.{err_from_is_err_and}
use Rattle.pgs_world_streams.specs.Pieces.{HoldsPiece, PieceIs}
use Rattle.pgs_world_streams.specs.Whole.HasWritten.{wrote_none}
use Rattle.pgs_world_streams.proofs.Knowing.{appends_none, front_here, front_kept, appends_at}
use Rattle.pgs_world_streams.proofs.Loops.{within_more, wrote_more, fails_to_write, write_failed}
use Rattle.pgs_world_streams.proofs.whole.write_whole.Goals as goal

pub loop-done-init : goal.loop-done-init
loop-done-init g c = record { within = omega arith; known = appends_none (g.W.Write.contents c.args.writer.now); written = wrote_none }

pub loop-done-preserved : goal.loop-done-preserved
loop-done-preserved g c =
    let contents = g.W.Write.contents in
    record {
      within = within_more _ _ _ _ refl c.loop-done.invariant.within c.in_ok-count.ensures.bound;
      known = appends_at (contents c.args.writer.now) (contents c.loop-done.writer) (contents c.write_some.new.writer) _ _ _ _ refl c.loop-done.invariant.known c.in_ok-count.ensures.bytes;
      written = wrote_more _ _ _ _ _ _ _ _ _ refl c.loop-done.invariant.written c.in_ok-count.ensures.tried (search rules);
    }

pub returns-in-0-clause-holds : goal.returns-in-0-clause-holds
returns-in-0-clause-holds g c =
    let contents = g.W.Write.contents in
    front_here _ _ _ _ (appends_at (contents c.args.writer.now) (contents c.loop-done.writer) (contents c.write_some.new.writer) _ c.loop-done.done _ _ refl c.loop-done.invariant.known c.in_ok-count.ensures.bytes)

pub returns-in-0-clause-given : goal.returns-in-0-clause-given
returns-in-0-clause-given g c =
    inr (write_failed _ _ _ _ _ _ _ _ c.in-0.is c.loop-done-test.true c.loop-done.invariant.written c.in_ok-count.ensures.tried)

pub returns-in_err-count-clause-holds : goal.returns-in_err-count-clause-holds
returns-in_err-count-clause-holds g c =
    let contents = g.W.Write.contents in
    let failed = err_from_is_err_and c.from_residual.result c.from_residual.ensures.1 in
    subst (λ answer. HoldsPiece contents c.args.writer.now c.args.piece.now answer c.write_some.new.writer) (sym failed.1)
    (front_kept (contents c.args.writer.now) (contents c.loop-done.writer) (contents c.write_some.new.writer) _ _ c.loop-done.invariant.known c.in_err-count.ensures.bytes)

pub returns-in_err-count-clause-given : goal.returns-in_err-count-clause-given
returns-in_err-count-clause-given g c =
    let failed = err_from_is_err_and c.from_residual.result c.from_residual.ensures.1 in
    subst (λ answer. PieceIs (g.W.SteadyWrite.write_gives c.args.moment) (g.W.SteadyWrite.flush_gives c.args.moment) c.args.writer.now c.args.piece.now answer c.write_some.new.writer) (sym failed.1)
    (inr (write_failed _ _ _ _ _ _ _ _ tt c.loop-done-test.true c.loop-done.invariant.written c.in_err-count.ensures.tried))

pub returns-in-0-clause-error : goal.returns-in-0-clause-error
returns-in-0-clause-error g c =
    inr (fails_to_write _ _ _ _ _ _ _ _ c.in-0.is c.from.ensures c.loop-done-test.true c.loop-done.invariant.written c.in_ok-count.ensures.tried)

pub returns-in_err-count-clause-error : goal.returns-in_err-count-clause-error
returns-in_err-count-clause-error g c =
    let failed = err_from_is_err_and c.from_residual.result c.from_residual.ensures.1 in
    rw (failed.1, failed.2) (inr (fails_to_write _ _ _ _ _ _ _ _ tt refl c.loop-done-test.true c.loop-done.invariant.written c.in_err-count.ensures.tried))
