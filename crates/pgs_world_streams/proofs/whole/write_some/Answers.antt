use Rattle.std.proofs.Common.{refl, arith}
use Rattle.pgs_world_streams.specs.Tries.AreInterrupted.{no_try, one_more}
use Rattle.pgs_world_streams.proofs.Knowing.{kept_none, kept_interrupted, write_behind}
use Rattle.pgs_world_streams.proofs.whole.write_some.Goals as goal

pub loop-answer-init : goal.loop-answer-init
loop-answer-init g c = record { few = omega arith; known = kept_none (g.W.Write.contents c.args.writer.now); interrupted = no_try }

pub loop-answer-preserved : goal.loop-answer-preserved
loop-answer-preserved g c =
    let contents = g.W.Write.contents in
    let again = c.if-not-is_tried_again.ensures.again refl in
    record {
      few = again.1;
      known = kept_interrupted (contents c.args.writer.now) (contents c.loop-answer.writer) (contents c.write_once-answer.new.self) _ _ c.loop-answer.invariant.known c.write_once-answer.ensures.bytes again.0;
      interrupted = one_more c.loop-answer.invariant.interrupted c.write_once-answer.ensures.gives again.0;
    }

pub returns-then-not-is_tried_again-clause-bytes : goal.returns-then-not-is_tried_again-clause-bytes
returns-then-not-is_tried_again-clause-bytes g c =
    let contents = g.W.Write.contents in
    write_behind (contents c.args.writer.now) (contents c.loop-answer.writer) (contents c.write_once-answer.new.self) _ _ c.loop-answer.invariant.known c.write_once-answer.ensures.bytes

pub returns-then-not-is_tried_again-clause-tried : goal.returns-then-not-is_tried_again-clause-tried
returns-then-not-is_tried_again-clause-tried g c = record {
  tries = c.loop-answer.tries;
  mid = c.loop-answer.writer;
  interrupted = c.loop-answer.invariant.interrupted;
  gave = c.write_once-answer.ensures.gives;
  few = c.loop-answer.invariant.few;
  ends = c.if-not-is_tried_again.ensures.no_more refl;
}
