use Rattle.std.proofs.Common.{sym}
use Rattle.pgs_answer.specs.Refusals.{rejection_text}
use Rattle.pgs_feed.specs.Deliveries.{kind_of}
use Rattle.pgs_run_input.specs.Session.{standard}
use Rattle.pgs_run_apply.specs.Outcome.{refusing}
use Rattle.pgs_run_apply.specs.Seen.{state_of}
use Rattle.pgs_run_apply.proofs.Taken.{rejecting, take_as, take_untaken}
use Rattle.pgs_run_apply.proofs.applying.Applying.reject.Goals as goal

pub returns-in_err-text-clause-answer : goal.returns-in_err-text-clause-answer
returns-in_err-text-clause-answer g c =
    let s = state_of c.args.self.now in
    take_untaken (kind_of g.L.Feeds.places g.L.Feeds.delivered) s (g.W.World.view c.args.world.now) c.args.self.now.feeds (g.met.W.World.timed c.args.world.now) c.requires.holds
    (refusing s (rejection_text c.args.rejection.now standard)) c.from_residual.result s c.from_residual.ensures.1

pub returns-clause-answer : goal.returns-clause-answer
returns-clause-answer g c =
    take_as
    (sym (rejecting (state_of c.args.self.now) c.args.rejection.now c.standard.result c.as_slice.result.now c.in_ok-text.text c.standard.ensures.ops c.standard.ensures.elements c.as_slice.ensures
    c.in_ok-text.ensures)) c.refuse.ensures.answer
