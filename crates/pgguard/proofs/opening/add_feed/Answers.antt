use Rattle.pgguard.proofs.Feeds.{untold_more}
use Rattle.pgguard.proofs.opening.add_feed.Goals as goal

pub returns-clause-feed : goal.returns-clause-feed
returns-clause-feed g c = (c.in_ok-feed.feed, c.in-Ok.ensures.feed, c.in_ok-feed.ensures.feed)

pub returns-clause-places : goal.returns-clause-places
returns-clause-places g c = untold_more _ _ c.args.feeds.now c.subscribe.new.self c.in_ok-feed.feed c.in_ok-feed.ensures.faults c.in-Ok.ensures.subscribed
