-- The sum of a number of each item.
use Rattle.std.proofs.Common.{◌≡◌, ℕ, ◌+◌, Bool, true, false, cond, List, [], ◌∷◌, ◌++◌, map, refl, sym, ◌∙◌, ap, arith}
use Rattle.std.specs.List.{sum, sum_by, filter}
use Rattle.std.specs.List.Sorted.{IsPermutation}
use Rattle.std.proofs.lemmas.List.Sums.{sum_by-cons, sum-map}
use Rattle.std.proofs.lemmas.List.Sorted.{sum_by-IsPermutation}
use Rattle.pgs_width.specs.Capped.{capped}
use Rattle.pgs_width.proofs.Caps.{sum_capped}

abbrev pub total : {X : Type 0} → (X → ℕ) → List X → ℕ
total f [] = 0
total f (x ∷ xs) = f x + total f xs

total_sum : {X : Type 0} (f : X → ℕ) (xs : List X) → sum_by f xs ≡ total f xs
total_sum f [] = refl
total_sum f (x ∷ xs) = sum_by-cons f x xs ∙ ap (λ n. f x + n) (total_sum f xs)

pub total_permutation : {X : Type 0} (f : X → ℕ) (xs ys : List X) → IsPermutation xs ys → total f ys ≡ total f xs
total_permutation f xs ys moved = sym (total_sum f ys) ∙ sum_by-IsPermutation f xs ys moved ∙ total_sum f xs

pub total_map : {X Y : Type 0} (f : Y → ℕ) (g : X → Y) (xs : List X) → total f (map g xs) ≡ total (λ x. f (g x)) xs
total_map f g [] = refl
total_map f g (x ∷ xs) = ap (λ n. f (g x) + n) (total_map f g xs)

pub total_append : {X : Type 0} (f : X → ℕ) (xs ys : List X) → total f (xs ++ ys) ≡ total f xs + total f ys
total_append f [] ys = omega arith
total_append f (x ∷ xs) ys = let h = total_append f xs ys in omega (arith, h)

-- the sum over those that pass a test
total_filter : {X : Type 0} (f : X → ℕ) (p : X → Bool) (xs : List X) → total f (filter p xs) ≡ total (λ x. cond (p x) (f x) 0) xs
total_filter f p [] = refl
total_filter {X} f p (x ∷ xs) = by (p x) (total_filter f p xs)
  where
    by : (b : Bool) → total f (filter p xs) ≡ total (λ y. cond (p y) (f y) 0) xs →
        total f (cond b (x ∷ filter p xs) (filter p xs)) ≡ cond b (f x) 0 + total (λ y. cond (p y) (f y) 0) xs
    by true h = ap (λ n. f x + n) h
    by false h = omega (arith, h)

pub sum_filter : {X : Type 0} (f : X → ℕ) (p : X → Bool) (xs : List X) → sum (map f (filter p xs)) ≡ total (λ x. cond (p x) (f x) 0) xs
sum_filter f p xs = sum-map f (filter p xs) ∙ total_sum f (filter p xs) ∙ total_filter f p xs

-- the sum up to the cap is that of numbers up to the cap
pub total_capped : {X : Type 0} (f g : X → ℕ) → ((x : X) → capped (f x) ≡ capped (g x)) → (xs : List X) → capped (total f xs) ≡ capped (total g xs)
total_capped f g same [] = refl
total_capped f g same (x ∷ xs) =
    sym (sum_capped (f x) (total f xs)) ∙ ap (λ n. capped (n + capped (total f xs))) (same x)
    ∙ ap (λ n. capped (capped (g x) + n)) (total_capped f g same xs) ∙ sum_capped (g x) (total g xs)
