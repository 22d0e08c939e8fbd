use Rattle.std.proofs.Common.{◌≡◌, ◌∙◌, Ok, Err, ap, subst, sym}
use Rattle.pgs_feed.specs.Deliveries.{kind_of}
use Rattle.pgs_run_input.specs.Answers.{txn_answer}
use Rattle.pgs_run_input.specs.TextFaults.{IsFaultOf}
use Rattle.pgs_run_apply.specs.Outcome.{outcome_of}
use Rattle.pgs_run_apply.specs.Seen.{state_of}
use Rattle.pgs_run_apply.proofs.Following.{blank_outcome, line_outcome}
use Rattle.pgs_run_apply.proofs.Taken.{take_as, take_none, take_skipped}
use Rattle.pgs_run_apply.proofs.applying.Applying.take_line.Goals as goal

pub returns-then-is_blank-clause-answer : goal.returns-then-is_blank-clause-answer
returns-then-is_blank-clause-answer g c =
    let s = state_of c.args.self.now in
    take_as (blank_outcome s c.args.line.now (sym c.is_blank.ensures ∙ c.if-is_blank.true))
    (take_skipped (kind_of g.L.Feeds.places g.L.Feeds.delivered) s (g.W.World.view c.args.world.now) c.args.self.now.feeds (g.met.W.World.timed c.args.world.now) c.requires.holds tt)

pub returns-in-Ok-clause-answer : goal.returns-in-Ok-clause-answer
returns-in-Ok-clause-answer g c =
    take_as
    (line_outcome (state_of c.args.self.now) c.args.line.now (Ok c.in-Ok.txn) (sym c.is_blank.ensures ∙ c.if-is_blank.false) (sym c.in-Ok.ensures))
    c.take_txn.ensures.answer

pub returns-in-Err-Refused-clause-answer : goal.returns-in-Err-Refused-clause-answer
returns-in-Err-Refused-clause-answer g c =
    let refused : txn_answer c.args.line.now ≡ Err c.in-Err-Refused.text = subst (IsFaultOf (txn_answer c.args.line.now)) c.in-Err-Refused.field-0-is c.in-Err-Refused.ensures in
    take_as
    (line_outcome (state_of c.args.self.now) c.args.line.now (Err c.as_slice.result.now) (sym c.is_blank.ensures ∙ c.if-is_blank.false)
    (ap Err c.as_slice.ensures ∙ sym refused)) c.refuse.ensures.answer

pub returns-in-Err-Memory-clause-answer : goal.returns-in-Err-Memory-clause-answer
returns-in-Err-Memory-clause-answer g c =
    let s = state_of c.args.self.now in
    take_none (kind_of g.L.Feeds.places g.L.Feeds.delivered) s (g.W.World.view c.args.world.now) c.args.self.now.feeds (g.met.W.World.timed c.args.world.now) c.requires.holds (outcome_of s c.args.line.now) s
