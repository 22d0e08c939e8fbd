use Rattle.std.proofs.Common.{◌∙◌}
use Rattle.pgs_feed.specs.Deliveries.{kind_of}
use Rattle.pgs_run_apply.specs.Outcome.{refusing}
use Rattle.pgs_run_apply.specs.Seen.{state_of}
use Rattle.pgs_run_apply.proofs.Taken.{take_refused, take_untaken}
use Rattle.pgs_run_apply.proofs.applying.Applying.refuse.Goals as goal

pub returns-in_err-line-clause-answer : goal.returns-in_err-line-clause-answer
returns-in_err-line-clause-answer g c =
    let s = state_of c.args.self.now in
    take_untaken (kind_of g.L.Feeds.places g.L.Feeds.delivered) s (g.W.World.view c.args.world.now) c.args.self.now.feeds (g.met.W.World.timed c.args.world.now) c.requires.holds
    (refusing s c.args.text.now) c.from_residual.result s c.from_residual.ensures.1

pub returns-clause-answer : goal.returns-clause-answer
returns-clause-answer g c =
    let put = c.put_piece.ensures in
    take_refused (kind_of g.L.Feeds.places g.L.Feeds.delivered) (state_of c.args.self.now) (g.W.World.view c.args.world.now) c.args.self.now.feeds (g.met.W.World.timed c.args.world.now) c.requires.holds
    c.args.text.now c.as_slice.result.now c.put_piece.result (g.W.World.view c.put_piece.new.world) (c.as_slice.ensures ∙ c.in_ok-line.ensures)
    (record { shows = put.shows; fault = put.fault; cause = put.cause; areas = put.areas; stops = put.stops })
