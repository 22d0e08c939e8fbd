-- Which puts a delivery makes.
use Rattle.std.specs.Prelude.{◌≡◌, ℕ, Bool, true, false, List, Option, Some, None}
use Rattle.std.specs.List.{AllZip}
use Rattle.pgs_feed.specs.declared.feed_list.FeedList.{FeedList}
use Rattle.pgs_feed.specs.declared.slot.Slot.{Slot}

-- one put, of the whole line, into a feed that hasn't failed, which is lost where it failed; else none
abbrev pub PutsTo : {F : Type 0} → (F → List ℕ → Bool → F → Type 0) → List ℕ → Option F → Bool → Slot F → Type 0
PutsTo {F} made line (Some feed) false after = (now : F) × (after.feed ≡ Some now) × made feed line after.is_lost now
PutsTo made line (Some feed) true after = (after.feed ≡ Some feed) × (after.is_lost ≡ true)
PutsTo made line None lost after = (after.feed ≡ None) × (after.is_lost ≡ lost)

abbrev pub PutsOnce : {F : Type 0} → (F → List ℕ → Bool → F → Type 0) → List ℕ → Slot F → Slot F → Type 0
PutsOnce made line before after = PutsTo made line before.feed before.is_lost after

-- the same of every place
abbrev pub PutsOnceEach : {F : Type 0} → (F → List ℕ → Bool → F → Type 0) → List ℕ → FeedList F → FeedList F → Type 0
PutsOnceEach made line before after = AllZip (PutsOnce made line) before.slots.items after.slots.items
