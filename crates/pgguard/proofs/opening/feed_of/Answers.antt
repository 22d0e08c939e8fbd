use Rattle.std.proofs.Common.{◌∙◌, sym, inl}
use Rattle.pgguard.proofs.Feeds.{feed_opened}
use Rattle.pgguard.proofs.opening.feed_of.Goals as goal

pub returns-then-is_among-clause-feed : goal.returns-then-is_among-clause-feed
returns-then-is_among-clause-feed g c = inl (sym c.is_among.ensures ∙ c.if-is_among.true, c.absent.ensures.writer, c.absent.ensures.cause)

pub returns-clause-feed : goal.returns-clause-feed
returns-clause-feed g c = feed_opened g.O.Opening.feed_gives _ c.args.name.now (sym c.is_among.ensures ∙ c.if-is_among.false) c.open_feed.result c.open_feed.ensures.gives
