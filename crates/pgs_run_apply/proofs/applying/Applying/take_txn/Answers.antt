use Rattle.std.proofs.Common.{◌+◌, ◌∙◌, refl}
use Rattle.pgs_answer.specs.Lines.{feed_line}
use Rattle.pgs_feed.specs.Deliveries.{kind_of}
use Rattle.pgs_violation.specs.Violations.{verdict}
use Rattle.pgs_run_input.specs.Session.{decision_on}
use Rattle.pgs_run_apply.specs.Outcome.{deciding}
use Rattle.pgs_run_apply.specs.Seen.{state_of, state_with}
use Rattle.pgs_run_apply.proofs.Asked.{still_holds, take_done, take_rejected, take_stopped}
use Rattle.pgs_run_apply.proofs.Taken.{take_untaken}
use Rattle.pgs_run_apply.proofs.applying.Applying.take_txn.Goals as goal

pub returns-in_err-verdict-clause-answer : goal.returns-in_err-verdict-clause-answer
returns-in_err-verdict-clause-answer g c =
    let self = c.args.self.now in
    let s = state_of self in
    take_untaken (kind_of g.L.Feeds.places g.L.Feeds.delivered) s (g.W.World.view c.args.world.now) self.feeds (g.met.W.World.timed c.args.world.now) c.requires.holds
    (deciding s c.args.txn.now (decision_on (verdict self.store.guard.schema) self.store.guard.graph c.args.txn.now)) c.from_residual.result s c.from_residual.ensures.1

pub returns-in-Ok-None-clause-answer : goal.returns-in-Ok-None-clause-answer
returns-in-Ok-None-clause-answer g c =
    let self = c.args.self.now in
    let put = c.put_piece.ensures in
    take_done (kind_of g.L.Feeds.places g.L.Feeds.delivered) self.store self.number self.refused c.args.txn.now c.put_piece.result c.ask.new.store (g.W.World.view c.args.world.now) (g.W.World.view c.ask.new.world)
    (g.W.World.view c.put_piece.new.world) self.feeds c.deliver_made.new.feeds c.as_slice.result.now c.requires.holds
    (g.met.W.World.timed c.args.world.now) (rw c.in-Ok-None.field-0-is at c.in-Ok-None.ensures.answer) c.ask.ensures.stops c.ask.ensures.beside
    (c.deliver_made.ensures.given (feed_line c.args.txn.now (self.store.guard.commits + 1)) c.in_ok-verdict.ensures.feed)
    (c.deliver_made.ensures.delivered (feed_line c.args.txn.now (self.store.guard.commits + 1)) c.in_ok-verdict.ensures.feed)
    (c.as_slice.ensures ∙ c.in_ok-verdict.ensures.verdict)
    (record { shows = put.shows; fault = put.fault; cause = put.cause; areas = put.areas; stops = put.stops })

pub reject-requires-clause-holds : goal.reject-requires-clause-holds
reject-requires-clause-holds g c =
    let self = c.args.self.now in
    let answer = rw c.in-Ok-Some.field-0-is at c.in-Ok-Some.ensures.answer in
    let early = rw c.in-Ok-Some.field-0-is at c.in-Ok-Some.ensures.early in
    still_holds (kind_of g.L.Feeds.places g.L.Feeds.delivered) self.store self.number self.refused c.args.txn.now g.W.World.view c.args.world.now c.ask.new.world c.ask.new.store c.requires.holds answer.1 (early refl)

pub returns-in-Ok-Some-clause-answer : goal.returns-in-Ok-Some-clause-answer
returns-in-Ok-Some-clause-answer g c =
    let self = c.args.self.now in
    let answer = rw c.in-Ok-Some.field-0-is at c.in-Ok-Some.ensures.answer in
    let early = rw c.in-Ok-Some.field-0-is at c.in-Ok-Some.ensures.early in
    take_rejected (kind_of g.L.Feeds.places g.L.Feeds.delivered) self.store self.number self.refused c.args.txn.now g.W.World.view c.reject.result (state_of c.reject.new.self) c.in-Ok-Some.rejection
    c.args.world.now c.ask.new.world (g.W.World.view c.reject.new.world) self.feeds c.reject.new.self.feeds c.ask.new.store c.requires.holds
    answer.0 answer.1 (early refl) c.reject.ensures.answer

pub returns-clause-answer : goal.returns-clause-answer
returns-clause-answer g c =
    let self = c.args.self.now in
    take_stopped (kind_of g.L.Feeds.places g.L.Feeds.delivered) self.store self.number self.refused c.args.txn.now g.W.World.view c.in-Err.stop (state_with c.ask.new.store self.number self.refused) c.ask.new.store c.args.world.now c.ask.new.world
    self.feeds c.requires.holds (g.met.W.World.timed c.args.world.now) c.in-Err.ensures.answer
    c.in-Err.ensures.early c.ask.ensures.stops c.ask.ensures.beside
