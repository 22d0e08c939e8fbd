-- Where an edge stands among edges by ascending number.
use Rattle.std.specs.Prelude.{◌≡◌, ℕ, ◌+◌, ◌<◌, ◌≤◌, List, length}
use Rattle.pgs_base.specs.declared.element.EdgeId.{EdgeId}
use Rattle.pgs_tables_edges.specs.Numbers.{number_at, AllBelow}

-- the numbers from a place on are that of an edge or above it
abbrev pub AllFrom : EdgeId → List EdgeId → ℕ → Type 0
AllFrom id edges start = (place : ℕ) → start ≤ place → place < length edges → id.0 ≤ number_at edges place

-- an edge of a lower number stands at a place, and so at each before
pub record IsLower (id : EdgeId) (edges : List EdgeId) (place : ℕ) : Type 0 where
  pub in_range : place < length edges
  pub all : AllBelow id edges (place + 1)

-- the edge stands at a place
pub record StandsAt (id : EdgeId) (edges : List EdgeId) (place : ℕ) : Type 0 where
  pub in_range : place < length edges
  pub here : number_at edges place ≡ id.0
