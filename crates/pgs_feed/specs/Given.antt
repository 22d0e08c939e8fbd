-- What becomes of the places of a list of feeds to which lines were given, one after another.
use Rattle.std.specs.Prelude.{◌≡◌, ℕ, List, ◌∷◌, ◌++◌}
use Rattle.std.specs.List.{AllZip, concat}
use Rattle.pgs_world.specs.Count.{RoseByOne}
use Rattle.pgs_world.specs.World.{Adds}
use Rattle.pgs_feed.specs.Places.{FeedState, Place, Fed, Lost, Dropped}

-- the feed took all lines, and its count of faults stayed
pub record TookAll (lines : List (List ℕ)) (before after : FeedState) : Type 0 where
  pub whole : Adds before.taken after.taken (concat lines)
  pub no_fault : after.faults ≡ before.faults

-- the feed took some first lines, and a front of the next one, at which it failed
pub record FailedIn (lines : List (List ℕ)) (before after : FeedState) : Type 0 where
  pub first : List (List ℕ)
  pub front : List ℕ
  pub back : List ℕ
  pub later : List (List ℕ)
  pub parts : lines ≡ first ++ (front ++ back) ∷ later
  pub added : Adds before.taken after.taken (concat first ++ front)
  pub fault : RoseByOne before.faults after.faults

-- a feed that was fed took the lines, or is lost
abbrev pub TakesLines : List (List ℕ) → FeedState → Place → Type 0
TakesLines lines before (Fed after) = TookAll lines before after
TakesLines lines before (Lost after) = FailedIn lines before after
TakesLines lines before (Dropped failed) = ⊥

-- A place before and after the lines. Where no feed is fed, nothing changes.
abbrev pub IsGiven : List (List ℕ) → Place → Place → Type 0
IsGiven lines (Fed before) after = TakesLines lines before after
IsGiven lines (Lost feed) after = after ≡ Lost feed
IsGiven lines (Dropped failed) after = after ≡ Dropped failed

-- all places of a list
abbrev pub AreGiven : List (List ℕ) → List Place → List Place → Type 0
AreGiven lines before after = AllZip (IsGiven lines) before after
