-- What contracts see of a list of feeds, and what its calls do.
use Rattle.std.specs.Prelude.{◌≡◌, ◌+◌, ℕ, zero, suc, Bool, true, false, not, ◌&&◌, List, [], ◌∷◌, Option, Some, None}
use Rattle.std.specs.List.{count_by, zip}
use Rattle.pgs_world.specs.Count.{RoseByOne}
use Rattle.pgs_world.specs.World.{Adds, AddsFront}

-- a feed: the bytes that it took, where it tells them, and how many of its puts failed
pub record FeedState : Type 0 where
  pub taken : Option (List ℕ)
  pub faults : ℕ

-- A place of the list: its feed is fed, or it failed at a delivery and is given no more, or it was dropped, after it had failed or not.
pub data Place : Type 0 where
  Fed : FeedState → Place
  Lost : FeedState → Place
  Dropped : (failed : Bool) → Place

-- the place of a feed that took these bytes, where it tells them, and whose count of faults this is
abbrev pub fed : Option (List ℕ) → ℕ → Place
fed taken faults = Fed (record { taken = taken; faults = faults })

-- the place by its feed, if it wasn't dropped, and by whether the feed failed
abbrev pub place_of : Option FeedState → Bool → Place
place_of None failed = Dropped failed
place_of (Some feed) false = Fed feed
place_of (Some feed) true = Lost feed

-- the feed failed
abbrev pub is_lost : Place → Bool
is_lost (Fed feed) = false
is_lost (Lost feed) = true
is_lost (Dropped failed) = failed

-- how many feeds failed, dropped ones among them
abbrev pub lost_count : List Place → ℕ
lost_count places = count_by is_lost places

-- a feed is there
abbrev pub has_feed : Place → Bool
has_feed (Fed feed) = true
has_feed (Lost feed) = true
has_feed (Dropped failed) = false

-- a feed is there that hasn't failed
abbrev pub is_fed : Place → Bool
is_fed (Fed feed) = true
is_fed (Lost feed) = false
is_fed (Dropped failed) = false

-- how many such feeds there are
abbrev pub fed_count : List Place → ℕ
fed_count places = count_by is_fed places

-- there is a place, and a feed is there
abbrev pub is_there : Option Place → Bool
is_there None = false
is_there (Some place) = has_feed place

-- what the feed there took, where one is there and tells it
abbrev pub taken_at : Place → Option (List ℕ)
taken_at (Fed feed) = feed.taken
taken_at (Lost feed) = feed.taken
taken_at (Dropped failed) = None

-- the feed took the whole line, and its count of faults stayed
pub record TookLine (line : List ℕ) (before after : FeedState) : Type 0 where
  pub whole : Adds before.taken after.taken line
  pub no_fault : after.faults ≡ before.faults

-- the feed failed: it took some front of the line, and its count of faults rose
pub record Failed (line : List ℕ) (before after : FeedState) : Type 0 where
  pub front : AddsFront before.taken after.taken line
  pub fault : RoseByOne before.faults after.faults

-- a feed that was fed takes the line, or is lost
abbrev pub IsFed : List ℕ → FeedState → Place → Type 0
IsFed line before (Fed after) = TookLine line before after
IsFed line before (Lost after) = Failed line before after
IsFed line before (Dropped failed) = ⊥

-- A place before and after a delivery of the line. Where no feed is fed, nothing changes.
abbrev pub Delivers : List ℕ → Place → Place → Type 0
Delivers line (Fed before) after = IsFed line before after
Delivers line (Lost feed) after = after ≡ Lost feed
Delivers line (Dropped failed) after = after ≡ Dropped failed

-- a feed that wasn't lost before is lost after
abbrev pub becomes_lost : Place × Place → Bool
becomes_lost places = not (is_lost places.0) && is_lost places.1

-- the number of feeds that failed rises by that of the feeds that become lost
abbrev pub RaisesLost : List Place → List Place → Type 0
RaisesLost before after = lost_count after ≡ lost_count before + count_by becomes_lost (zip before after)

-- the place after its feed is dropped
abbrev pub dropped : Place → Place
dropped place = Dropped (is_lost place)

-- the places after the feed at that place is dropped
abbrev pub without : List Place → ℕ → List Place
without [] at = []
without (place ∷ places) zero = dropped place ∷ places
without (place ∷ places) (suc at) = place ∷ without places at
