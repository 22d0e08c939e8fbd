use Rattle.std.proofs.Common.{map}
use Rattle.pgs_feed.specs.Places.{Delivers}
use Rattle.pgs_feed.specs.Puts.{PutsOnce}
use Rattle.pgs_feed.specs.Seen.{place_seen, places}
use Rattle.pgs_feed.proofs.Counts.{delivery_raises}
use Rattle.pgs_feed.proofs.Visits.{visited_each, zip_seen}
use Rattle.pgs_feed.proofs.feed_list.FeedList.deliver.Goals as goal

pub returns : goal.returns
returns g c =
    let line = c.args.line.now in
    let seen = place_seen g.F.Feed.taken g.F.Feed.faults in
    let list = places g.F.Feed.taken g.F.Feed.faults in
    let before = c.args.self.now.slots.items in
    let after = c.visit_each.new.items.items in
    let each = visited_each (λ visitor x y. Delivers visitor.bytes.now (seen x) (seen y) × PutsOnce g.F.Feed.put_made visitor.bytes.now x y) _ before after c.visit_each.new.visitor c.visit_each.ensures in
    let both = zip_seen (Delivers line) (PutsOnce g.F.Feed.put_made line) seen before after each in
    record {
      delivered = both.0;
      raised = delivery_raises line (list c.args.self.now) (map seen after) both.0;
      puts = both.1;
    }
