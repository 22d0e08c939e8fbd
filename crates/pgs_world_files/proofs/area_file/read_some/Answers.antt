use Rattle.std.proofs.Common.{refl, arith}
use Rattle.pgs_world_streams.specs.Tries.AreInterrupted.{no_try, one_more}
use Rattle.pgs_world_files.proofs.area_file.read_some.Goals as goal

pub loop-answer-init : goal.loop-answer-init
loop-answer-init g c = record { few = omega arith; interrupted = no_try }

pub loop-answer-preserved : goal.loop-answer-preserved
loop-answer-preserved g c =
    let again = c.if-not-is_tried_again.ensures.again refl in
    record { few = again.1; interrupted = one_more c.loop-answer.invariant.interrupted (_, c.read_once-answer.ensures.gives) again.0 }

pub returns-then-not-is_tried_again-clause-tried : goal.returns-then-not-is_tried_again-clause-tried
returns-then-not-is_tried_again-clause-tried g c = record {
  tries = c.loop-answer.tries;
  mid = c.loop-answer.handle;
  interrupted = c.loop-answer.invariant.interrupted;
  gave = c.read_once-answer.ensures.gives;
  few = c.loop-answer.invariant.few;
  ends = c.if-not-is_tried_again.ensures.no_more refl;
}
