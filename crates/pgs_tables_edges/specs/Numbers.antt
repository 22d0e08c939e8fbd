-- The numbers of the edges at the places of a list.
use Rattle.std.specs.Prelude.{ℕ, ◌<◌, ◌≤◌, List, length, get_or}
use Rattle.pgs_base.specs.declared.element.EdgeId.{EdgeId}

-- the edge of a number
abbrev pub numbered : ℕ → EdgeId
numbered n = record { 0 = n }

-- the number at a place, and 0 past the last
abbrev pub number_at : List EdgeId → ℕ → ℕ
number_at edges place = (get_or edges place (numbered 0)).0

-- the numbers before a place are below that of an edge
abbrev pub AllBelow : EdgeId → List EdgeId → ℕ → Type 0
AllBelow id edges end = (place : ℕ) → place < end → number_at edges place < id.0

-- the numbers from a place on are above that of an edge
abbrev pub AllAbove : EdgeId → List EdgeId → ℕ → Type 0
AllAbove id edges start = (place : ℕ) → start ≤ place → place < length edges → id.0 < number_at edges place

-- an edge that isn't there would stand at a place
pub record IsBetween (id : EdgeId) (edges : List EdgeId) (place : ℕ) : Type 0 where
  pub in_range : place ≤ length edges
  pub below : AllBelow id edges place
  pub above : AllAbove id edges place
