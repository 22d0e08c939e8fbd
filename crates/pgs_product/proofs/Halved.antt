-- A list that is cut in half: each half is within half of a power of two that the list is within, and what may be taken of the two
-- halves is what may be taken of the list.
use Rattle.std.proofs.Common.{◌≡◌, ℕ, zero, suc, ◌+◌, ◌-◌, ◌*◌, ◌/◌, ◌^◌, ◌≤◌, List, [], ◌∷◌, ◌++◌, length, take, drop, ◌∙◌, ap, arith, add-one}
use Rattle.std.proofs.Math.Nat.{pow-suc, mul_assoc}
use Rattle.std.proofs.lemmas.List.{length-take, length-drop, take-append-drop}
use Rattle.pgs_product.specs.Counts.{choices}

doubled : (further lower : ℕ) → further ≡ lower + 1 → 2 ^ further ≡ 2 ^ lower * 2
doubled further lower one_more = ap (λ n. 2 ^ n) (one_more ∙ add-one lower) ∙ pow-suc 2 lower

-- more than one item is more than the zeroth power
halves_left : (further n : ℕ) → 2 ≤ n → n ≤ 2 ^ further → 1 ≤ further
halves_left zero n low high = absurd (omega arith)
halves_left (suc further) n low high = omega arith

-- each half of a list of more than one item needs one halving less
module _ {X : Type 0} (xs half : List X) (further : ℕ) (several : 2 ≤ length xs) (within : length xs ≤ 2 ^ further) where
  abbrev Fits : Type 0
  Fits = (1 ≤ further) × (length half ≤ 2 ^ (further - 1))

  long_half : (n : ℕ) → length half ≡ n → n + n ≤ length xs + 1 → Fits
  long_half n long low =
      let left = halves_left further (length xs) several within in
      let one_more : further ≡ (further - 1) + 1 = omega arith in
      let double = doubled further (further - 1) one_more in (left, omega (arith, double, long))

  pub front_fits : half ≡ take (length xs / 2) xs → Fits
  front_fits is =
      let long = ap length is ∙ length-take (length xs / 2) xs in long_half _ long (omega arith)

  pub back_fits : half ≡ drop (length xs / 2) xs → Fits
  back_fits is =
      let long = ap length is ∙ length-drop (length xs / 2) xs in long_half _ long (omega arith)

-- the choices of two lists of lists together
choices_append : {X : Type 0} (xs ys : List (List X)) → choices xs * choices ys ≡ choices (xs ++ ys)
choices_append [] ys = omega arith
choices_append (x ∷ xs) ys =
    mul_assoc (length x) (choices xs) (choices ys) ∙ ap (λ n. length x * n) (choices_append xs ys)

pub choices_cut : {X : Type 0} (n : ℕ) (xs front back : List (List X)) → front ≡ take n xs → back ≡ drop n xs → choices front * choices back ≡ choices xs
choices_cut n xs front back a b =
    choices_append front back ∙ ap (λ ys. choices (ys ++ back)) a ∙ ap (λ ys. choices (take n xs ++ ys)) b ∙ ap choices (take-append-drop n xs)

-- and of the products of two halves
pub product_count : {X Y : Type 0} (n : ℕ) (xs front back : List (List X)) (first second one other whole : List Y) → front ≡ take n xs → back ≡ drop n xs →
    one ≡ first → other ≡ second → length first ≡ choices front → length second ≡ choices back → length whole ≡ length one * length other →
    length whole ≡ choices xs
product_count n xs front back first second one other whole a b same_one same_other count_first count_second is =
    is ∙ (λ i. length (same_one i) * length (same_other i)) ∙ (λ i. count_first i * count_second i) ∙ choices_cut n xs front back a b
