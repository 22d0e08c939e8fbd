-- A loop that visits each item of a list in turn.
use Rattle.std.proofs.Common.{arith, subst, sym, refl, ◌+◌, ℕ, zero, suc, List, [], ◌∷◌, ◌≡◌, ◌<◌, ◌≤◌, length, map, slice_set, get_or}
use Rattle.std.specs.List.{AllZip}
use Rattle.pgs_feed.specs.Visits.{AreVisited}

-- the first n items were visited, and the others are those before
abbrev pub InTurn : {V X : Type 0} → (V → X → X → V → Type 0) → ℕ → V → List X → List X → V → Type 0
InTurn R zero old before after new = (after ≡ before) × (new ≡ old)
InTurn R (suc n) old [] after new = ⊥
InTurn R (suc n) old (x ∷ before) [] new = ⊥
InTurn {V} R (suc n) old (x ∷ before) (y ∷ after) new = (mid : V) × R old x y mid × InTurn R n mid before after new

module _ {V X : Type 0} (R : V → X → X → V → Type 0) where
  turn_suc : (n : ℕ) (before after : List X) (x y : X) (old mid new : V) → InTurn R n old before after mid → n < length before
      → x ≡ get_or after n x → R mid x y new → InTurn R (suc n) old before (slice_set after n y) new
  turn_suc zero [] after x y old mid new turn within here visit = absurd (omega arith)
  turn_suc zero (first ∷ before) after x y old mid new turn within here visit =
      subst (λ (items : List X). x ≡ get_or items 0 x → InTurn R 1 old (first ∷ before) (slice_set items 0 y) new) (sym turn.0)
      (λ same. (new, subst (λ (v : V). R v first y new) turn.1 (subst (λ (z : X). R mid z y new) same visit), (refl, refl))) here
  turn_suc (suc n) [] after x y old mid new turn within here visit = absurd (omega arith)
  turn_suc (suc n) (first ∷ before) [] x y old mid new turn within here visit = absurd turn
  turn_suc (suc n) (first ∷ before) (z ∷ after) x y old mid new turn within here visit =
      (turn.0, turn.1, turn_suc n before after x y turn.0 mid new turn.2 (omega arith) here visit)

  -- one more item is visited: x was there, and y is
  pub turn_more : (n : ℕ) (before after : List X) (x y : X) (old mid new : V) → InTurn R n old before after mid → n < length before
      → x ≡ get_or after n x → R mid x y new → InTurn R (n + 1) old before (slice_set after n y) new
  turn_more n before after x y old mid new turn within here visit =
      let one : suc n ≡ n + 1 = omega arith in
      subst (λ m. InTurn R m old before (slice_set after n y) new) one (turn_suc n before after x y old mid new turn within here visit)

  -- all items were
  pub turn_all : (n : ℕ) (before after : List X) (old new : V) → InTurn R n old before after new → length before ≤ n → AreVisited R old before after new
  turn_all zero [] after old new turn past = subst (λ (items : List X). AreVisited R old [] items new) (sym turn.0) turn.1
  turn_all zero (x ∷ before) after old new turn past = absurd (omega arith)
  turn_all (suc n) [] after old new turn past = absurd turn
  turn_all (suc n) (x ∷ before) [] old new turn past = absurd turn
  turn_all (suc n) (x ∷ before) (y ∷ after) old new turn past = (turn.0, turn.1, turn_all n before after turn.0 new turn.2 (omega arith))

-- a visitor that stays: what holds of each visit holds of each item
pub visited_each : {V X : Type 0} (P : V → X → X → Type 0) (old : V) (before after : List X) (new : V)
    → AreVisited (λ (v : V) (x y : X) (w : V). (w ≡ v) × P v x y) old before after new → AllZip (P old) before after
visited_each P old [] [] new all = tt
visited_each P old [] (y ∷ after) new all = absurd all
visited_each P old (x ∷ before) [] new all = absurd all
visited_each {V = V} {X = X} P old (x ∷ before) (y ∷ after) new all =
    (all.1.1, visited_each P old before after new (subst (λ (v : V). AreVisited (λ (v : V) (x y : X) (w : V). (w ≡ v) × P v x y) v before after new) all.1.0 all.2))

-- the same of what each item is seen as, and of the items
pub zip_seen : {X Y : Type 0} (Q : Y → Y → Type 0) (P : X → X → Type 0) (seen : X → Y) (before after : List X)
    → AllZip (λ x y. Q (seen x) (seen y) × P x y) before after → AllZip Q (map seen before) (map seen after) × AllZip P before after
zip_seen Q P seen [] [] all = (tt, tt)
zip_seen Q P seen [] (y ∷ after) all = absurd all
zip_seen Q P seen (x ∷ before) [] all = absurd all
zip_seen Q P seen (x ∷ before) (y ∷ after) all =
    let others = zip_seen Q P seen before after all.1 in
    ((all.0.0, others.0), (all.0.1, others.1))
