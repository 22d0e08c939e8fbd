-- How many feeds of a list failed, after each call.
use Rattle.std.proofs.Common.{arith, ◌≡◌, ◌∙◌, ◌+◌, ap, refl, subst, sym, Bool, true, false, ℕ, zero, suc, List, [], ◌∷◌, cond}
use Rattle.std.specs.List.{AllZip, zip}
use Rattle.std.proofs.lemmas.List.Sums.{sum_by-cons}
use Rattle.pgs_feed.specs.Places.{Place, Fed, Lost, Dropped, Delivers, RaisesLost, becomes_lost, is_lost, lost_count, without}

-- how much the place adds to the number of feeds that failed
abbrev pub loss : Place → ℕ
loss place = cond (is_lost place) 1 0

abbrev pub new_loss : Place → Place → ℕ
new_loss before after = cond (becomes_lost (before, after)) 1 0

dropped_raises : (failed : Bool) → loss (Dropped failed) ≡ loss (Dropped failed) + new_loss (Dropped failed) (Dropped failed)
dropped_raises true = refl
dropped_raises false = refl

place_raises : (line : List ℕ) (before after : Place) → Delivers line before after → loss after ≡ loss before + new_loss before after
place_raises line (Fed before) (Fed after) delivered = refl
place_raises line (Fed before) (Lost after) delivered = refl
place_raises line (Fed before) (Dropped failed) delivered = absurd delivered
place_raises line (Lost feed) after delivered =
    subst (λ place. loss place ≡ loss (Lost feed) + new_loss (Lost feed) place) (sym delivered) refl
place_raises line (Dropped failed) after delivered =
    subst (λ place. loss place ≡ loss (Dropped failed) + new_loss (Dropped failed) place) (sym delivered) (dropped_raises failed)

count_cons : (place : Place) (places : List Place) → lost_count (place ∷ places) ≡ loss place + lost_count places
count_cons place places = sum_by-cons loss place places

-- a delivery raises the number by that of the feeds that become lost
pub delivery_raises : (line : List ℕ) (before after : List Place) → AllZip (Delivers line) before after
    → RaisesLost before after
delivery_raises line [] [] all = refl
delivery_raises line [] (q ∷ after) all = absurd all
delivery_raises line (p ∷ before) [] all = absurd all
delivery_raises line (p ∷ before) (q ∷ after) all =
    let first = place_raises line p q all.0 in
    let others = delivery_raises line before after all.1 in
    let old = count_cons p before in
    let new = count_cons q after in
    let pairs = sum_by-cons (λ places. new_loss places.0 places.1) (p, q) (zip before after) in
    omega arith

-- a feed that is dropped counts as before
pub dropping_keeps : (places : List Place) (at : ℕ) → lost_count (without places at) ≡ lost_count places
dropping_keeps [] at = refl
dropping_keeps (place ∷ places) zero = refl
dropping_keeps (place ∷ places) (suc at) =
    count_cons place (without places at) ∙ (ap (λ count. loss place + count) (dropping_keeps places at) ∙ sym (count_cons place places))
