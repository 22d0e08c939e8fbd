use Rattle.std.proofs.Common.{rules, ◌∙◌, ap, sym}
use Rattle.std.proofs.lemmas.Bool.{le-ltb}
use Rattle.std.specs.Option.{option_map}
use Rattle.std.proofs.lemmas.Option.{slice_get-map, slice_get_past}
use Rattle.pgs_feed.specs.Places.{is_there, lost_count}
use Rattle.pgs_feed.specs.Seen.{place_seen, places}
use Rattle.pgs_feed.proofs.Counts.{dropping_keeps}
use Rattle.pgs_feed.proofs.Drops.{drops_none, drops_one}
use Rattle.pgs_feed.proofs.feed_list.FeedList.unsubscribe.Goals as goal

pub returns-then-place-len-clause-dropped : goal.returns-then-place-len-clause-dropped
returns-then-place-len-clause-dropped g c =
    drops_one (place_seen g.F.Feed.taken g.F.Feed.faults) c.args.self.now.slots.items c.args.place c.index_mut.result.now c.drop_feed.new.self (search rules)
    c.index_mut.ensures.value c.drop_feed.ensures.gone

pub returns-then-place-len-clause-lost_stays : goal.returns-then-place-len-clause-lost_stays
returns-then-place-len-clause-lost_stays g c =
    ap lost_count (returns-then-place-len-clause-dropped g c) ∙ dropping_keeps (places g.F.Feed.taken g.F.Feed.faults c.args.self.now) c.args.place

pub returns-else-place-len-clause-there : goal.returns-else-place-len-clause-there
returns-else-place-len-clause-there g c =
    let seen = place_seen g.F.Feed.taken g.F.Feed.faults in
    let slots = c.args.self.now.slots.items in
    le-ltb c.args.place c.len.result c.if-place-len.false
    ∙ sym (ap is_there (slice_get-map seen slots c.args.place ∙ ap (option_map seen) (slice_get_past slots c.args.place (search rules))))

pub returns-else-place-len-clause-dropped : goal.returns-else-place-len-clause-dropped
returns-else-place-len-clause-dropped g c =
    drops_none (place_seen g.F.Feed.taken g.F.Feed.faults) c.args.self.now.slots.items c.args.place (search rules)
