-- Deliveries to a list of feeds beside a world: which lines, in which order, and how many puts the world had answered Ok by then.
use Rattle.std.specs.Prelude.{◌≡◌, ◌⊎◌, ℕ, ◌+◌, List, [], ◌∷◌, map}
use Rattle.pgs_feed.specs.Places.{Place, fed_count}

-- a line that feeds get, and how many puts come before it
pub record Delivery : Type 0 where
  pub line : List ℕ
  pub puts : ℕ

abbrev pub lines_in : List Delivery → List (List ℕ)
lines_in deliveries = map (λ delivery. delivery.line) deliveries

-- the same behind so many puts more
abbrev pub behind : ℕ → List Delivery → List Delivery
behind puts deliveries = map (λ delivery. record { line = delivery.line; puts = puts + delivery.puts }) deliveries

-- What contracts see of a kind of lists of feeds: the places that a list gave, and that a line was given to a list while a world had
-- answered so many puts with Ok.
pub record ListKind : Type 1 where
  pub Feeds : Type 0
  pub places : Feeds → List Place
  pub delivered : Feeds → (line : List ℕ) → (puts : ℕ) → Feeds → Type 0

abbrev pub kind_of : {L : Type 0} → (L → List Place) → (L → List ℕ → ℕ → L → Type 0) → ListKind
kind_of {L} places delivered = record { Feeds = L; places = places; delivered = delivered }

-- the delivery was made; where no feed is there that hasn't failed it needn't be
abbrev pub IsDelivered : (kind : ListKind) → kind.Feeds → Delivery → kind.Feeds → Type 0
IsDelivered kind old delivery new =
    kind.delivered old delivery.line delivery.puts new ⊎ ((fed_count (kind.places old) ≡ 0) × (new ≡ old))

-- these deliveries were made, one after another, and nothing else was done to the list
abbrev pub AreDelivered : (kind : ListKind) → kind.Feeds → List Delivery → kind.Feeds → Type 0
AreDelivered kind old [] new = new ≡ old
AreDelivered kind old (delivery ∷ deliveries) new =
    (mid : kind.Feeds) × IsDelivered kind old delivery mid × AreDelivered kind mid deliveries new
