-- Types by measure: it orders them, and none that isn't told goes before one that is.
use Rattle.std.proofs.Common.{◌≡◌, ℕ, zero, suc, ◌≤◌, true, false, ◌⊎◌, List, [], ◌∷◌, length, take, filter, refl, ap, ◌∙◌, Ordering, Less, Equal, Greater, arith}
use Rattle.std.specs.List.{Contains}
use Rattle.std.specs.Ordering.{ordering_reverse, is_lt}
use Rattle.std.specs.Cmp.{IsTotalOrder, nat_cmp_total, on_total, then_total}
use Rattle.pgs_differences.specs.declared.measure.Measure.{Measure}
use Rattle.pgs_differences.specs.declared.near_type.NearType.{NearType}
use Rattle.pgs_differences.specs.Nearest.{measure_of, measure_cmp, goes_before, by_measure, nearest_shape, is_eligible, nearest}
use Rattle.pgs_differences.proofs.Sorted.{Orders, of_first, none_before, kept_has, kept_from}

measure_total : IsTotalOrder measure_cmp
measure_total =
    then_total (on_total (λ (m : Measure). m.own_labels) nat_cmp_total)
    (then_total (on_total (λ (m : Measure). m.ends) nat_cmp_total)
    (then_total (on_total (λ (m : Measure). m.own_keys) nat_cmp_total)
    (then_total (on_total (λ (m : Measure). m.end_labels) nat_cmp_total) (on_total (λ (m : Measure). m.end_keys) nat_cmp_total))))

is_less : (o : Ordering) → is_lt o ≡ true → o ≡ Less
is_less Less h = refl
is_less Equal h = cc
is_less Greater h = cc

pub orders : Orders goes_before
unfolding goes_before
orders = record {
  apart = λ x y h. ap is_lt (measure_total.antisymm (measure_of y) (measure_of x) ∙ ap ordering_reverse (is_less (measure_cmp (measure_of x) (measure_of y)) h));
  along = λ x y z h k. ap is_lt (measure_total.trans (measure_of x) (measure_of y) (measure_of z)
      (is_less (measure_cmp (measure_of x) (measure_of y)) h) (is_less (measure_cmp (measure_of y) (measure_of z)) k));
}

-- the shape that counts is one of the type's, and no other goes before it
pub shape_among : (nears : List NearType) (least : NearType) → Contains (nearest_shape nears) least → Contains nears least
shape_among nears least h = of_first goes_before orders 1 nears least h

pub shape_least : (nears : List NearType) (least near : NearType) → Contains (nearest_shape nears) least → Contains nears near →
    Contains (nearest_shape nears) near ⊎ (goes_before near least ≡ false)
shape_least nears least near h among = none_before goes_before orders 1 nears least near h among

-- one that is told is a candidate that is eligible
pub told_among : (nears : List NearType) (told : NearType) → Contains (nearest nears) told → Contains nears told × (is_eligible nears told ≡ true)
unfolding nearest
told_among nears told h =
    kept_from (is_eligible nears) nears told (of_first goes_before orders 3 (filter (is_eligible nears) nears) told h)

pub none_untold : (nears : List NearType) (told near : NearType) → Contains (nearest nears) told → Contains nears near →
    is_eligible nears near ≡ true → Contains (nearest nears) near ⊎ (goes_before near told ≡ false)
unfolding nearest
none_untold nears told near h among passes =
    none_before goes_before orders 3 (filter (is_eligible nears) nears) told near h (kept_has (is_eligible nears) nears near among passes)

take_within : {X : Type 0} (n : ℕ) (xs : List X) → length (take n xs) ≤ n
take_within zero xs = omega arith
take_within (suc n) [] = omega arith
take_within (suc n) (x ∷ xs) = let rest = take_within n xs in omega arith

pub few_told : (nears : List NearType) → length (nearest nears) ≤ 3
unfolding nearest
few_told nears = take_within 3 (by_measure (filter (is_eligible nears) nears))
