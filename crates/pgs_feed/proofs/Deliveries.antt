-- Deliveries to a list of feeds, one after another.
use Rattle.std.proofs.Common.{◌≡◌, ℕ, ◌+◌, List, [], ◌∷◌, ◌++◌, refl, ap, ap₂, subst, arith}
use Rattle.std.proofs.lemmas.List.{map-append}
use Rattle.pgs_feed.specs.Deliveries.{Delivery, ListKind, AreDelivered, IsDelivered, behind, lines_in}

abbrev delivery_of : List ℕ → ℕ → Delivery
delivery_of line puts = record { line = line; puts = puts }

pub lines_append : (xs ys : List Delivery) → lines_in (xs ++ ys) ≡ lines_in xs ++ lines_in ys
lines_append xs ys = map-append (λ (d : Delivery). d.line) xs ys

pub lines_behind : (puts : ℕ) (ds : List Delivery) → lines_in (behind puts ds) ≡ lines_in ds
lines_behind puts [] = refl
lines_behind puts (d ∷ ds) = ap (λ (lines : List (List ℕ)). d.line ∷ lines) (lines_behind puts ds)

pub behind_append : (puts : ℕ) (xs ys : List Delivery) → behind puts (xs ++ ys) ≡ behind puts xs ++ behind puts ys
behind_append puts [] ys = refl
behind_append puts (d ∷ ds) ys = ap (λ (more : List Delivery). (record { line = d.line; puts = puts + d.puts }) ∷ more) (behind_append puts ds ys)

pub behind_behind : (n m : ℕ) (ds : List Delivery) → behind n (behind m ds) ≡ behind (n + m) ds
behind_behind n m [] = refl
behind_behind n m (d ∷ ds) =
    let same : n + (m + d.puts) ≡ n + m + d.puts = omega arith in
    ap₂ (λ (k : ℕ) (more : List Delivery). delivery_of d.line k ∷ more) same (behind_behind n m ds)

pub behind_none : (ds : List Delivery) → behind 0 ds ≡ ds
behind_none [] = refl
behind_none (d ∷ ds) =
    let same : 0 + d.puts ≡ d.puts = omega arith in
    ap₂ (λ (k : ℕ) (more : List Delivery). delivery_of d.line k ∷ more) same (behind_none ds)

-- some deliveries, and then others
pub delivered_on : (kind : ListKind) (xs ys : List Delivery) (old mid new : kind.Feeds) → AreDelivered kind old xs mid → AreDelivered kind mid ys new → AreDelivered kind old (xs ++ ys) new
delivered_on kind [] ys old mid new p q = subst (λ (list : kind.Feeds). AreDelivered kind list ys new) p q
delivered_on kind (x ∷ xs) ys old mid new p q = (p.0, p.1, delivered_on kind xs ys p.0 mid new p.2 q)

-- one delivery of a line where so many puts were answered
pub delivered_one : (kind : ListKind) (line : List ℕ) (puts : ℕ) (old new : kind.Feeds) → IsDelivered kind old (record { line = line; puts = puts }) new
    → AreDelivered kind old (behind puts ((record { line = line; puts = 0 }) ∷ [])) new
delivered_one kind line puts old new one =
    let same : puts ≡ puts + 0 = omega arith in
    (new, subst (λ (n : ℕ). IsDelivered kind old (record { line = line; puts = n }) new) same one, refl)
