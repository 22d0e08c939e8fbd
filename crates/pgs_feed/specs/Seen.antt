-- The places of a list of feeds, by what a feed took and by its count of faults.
use Rattle.std.specs.Prelude.{ℕ, List, Option, None, map, if◌then◌else◌}
use Rattle.std.specs.Option.{option_map}
use Rattle.pgs_feed.specs.declared.feed_list.FeedList.{FeedList}
use Rattle.pgs_feed.specs.declared.slot.Slot.{Slot}
use Rattle.pgs_feed.specs.Places.{Place, place_of}

-- the place that a slot is
abbrev pub place_seen : {F : Type 0} → (F → Option (List ℕ)) → (F → ℕ) → Slot F → Place
place_seen taken faults slot = place_of (option_map (λ feed. record { taken = taken feed; faults = faults feed }) slot.feed) slot.is_lost

-- the feed of a slot, where it failed and wasn't dropped
abbrev pub lost_in : {F : Type 0} → Slot F → Option F
lost_in slot = if slot.is_lost then slot.feed else None

-- the places that the list gave, in order
abbrev pub places : {F : Type 0} → (F → Option (List ℕ)) → (F → ℕ) → FeedList F → List Place
places taken faults list = map (place_seen taken faults) list.slots.items

-- the feeds by place; none where it was dropped
abbrev pub feeds_in : {F : Type 0} → FeedList F → List (Option F)
feeds_in list = map (λ slot. slot.feed) list.slots.items
