use Rattle.std.proofs.Common.{◌<◌, List, [], Option, length, map, arith, rules, subst, sym}
use Rattle.pgs_feed.specs.Places.{fed}
use Rattle.pgs_feed.specs.Seen.{feeds_in}
use Rattle.pgs_world_files.specs.Counted.{untold_bytes}
use Rattle.pgguard.proofs.Feeds.{earlier_more, no_feeds, opened_more, unfailed_more, untold_none}
use Rattle.pgguard.specs.Opened.{AreFeedsOf}
use Rattle.pgguard.proofs.opening.open_feeds.Goals as goal

pub loop-name-init : goal.loop-name-init
loop-name-init g c =
    let files = map (λ other. other.now) c.args.files.now in
    let none = c.new-feeds.ensures in
    record {
      earlier = search rules;
      opened = subst (λ (feeds : List (Option _)). AreFeedsOf g.O.Opening.feed_gives files [] feeds) (sym (no_feeds _ _ c.new-feeds.result none)) tt;
      unfailed = untold_none _ _ c.new-feeds.result none;
    }

pub loop-name-preserved : goal.loop-name-preserved
loop-name-preserved g c =
    let files = map (λ other. other.now) c.args.files.now in
    let names = c.args.names.now in
    let i = c.loop-name.name-index in
    let lt : i < length names = omega (arith, c.loop-name-test.true) in
    let was = c.loop-name.invariant in
    record {
      earlier = earlier_more (λ other. other.now) files names i _ c.loop-name.earlier.items c.push.new.self.items lt c.in_ok-push.ensures.items was.earlier;
      opened = opened_more g.O.Opening.feed_gives (λ other. other.now) files names i _ c.loop-name.earlier.items c.as_slice.result.now (feeds_in c.loop-name.feeds) (feeds_in c.add_feed.new.feeds) lt c.as_slice.ensures.value was.earlier was.opened c.in_ok-add_feed.ensures.feed;
      unfailed = unfailed_more (λ other. other.now) (fed untold_bytes 0) names i _ _ lt c.in_ok-add_feed.ensures.places was.unfailed;
    }
