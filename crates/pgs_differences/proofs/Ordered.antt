-- Items in order: one put among others, and the first of them.
use Rattle.std.proofs.Common.{◌≡◌, ℕ, zero, suc, ◌+◌, Bool, true, false, not, cond, List, [], ◌∷◌, ◌++◌, take, refl, sym, ap, ◌∙◌, one-add}
use Rattle.std.specs.List.{position_or_len, insert}
use Rattle.std.proofs.lemmas.List.Sums.{fold_push}
use Rattle.pgs_differences.specs.Nearest.{put, in_order}

again : {X : Type 0} (n : ℕ) (z : X) (zs : List X) → take n (z ∷ take n zs) ≡ take n (z ∷ zs)
again zero z zs = refl
again (suc n) z [] = refl
again (suc n) z (w ∷ ws) = ap (λ vs. z ∷ vs) (again n w ws)

module _ {X : Type 0} (before : X → X → Bool) where
  placed : (b : Bool) (x y : X) (ys : List X) → put before ys x ≡ insert ys (position_or_len (before x) ys) x →
      cond b (x ∷ y ∷ ys) (y ∷ put before ys x) ≡ insert (y ∷ ys) (cond (not b) (1 + position_or_len (before x) ys) 0) x
  placed true x y ys later = refl
  placed false x y ys later =
      ap (λ zs. y ∷ zs) later ∙ ap (λ n. insert (y ∷ ys) n x) (sym (one-add (position_or_len (before x) ys)))

  -- it goes where the first is that it goes before
  pub put_is : (xs : List X) (x : X) → put before xs x ≡ insert xs (position_or_len (before x) xs) x
  put_is [] x = refl
  put_is (y ∷ ys) x = placed (before x y) x y ys (put_is ys x)

  first_of : (b : Bool) (most : ℕ) (x y : X) (ys : List X) → take most (put before (take most ys) x) ≡ take most (put before ys x) →
      take (suc most) (cond b (x ∷ y ∷ take most ys) (y ∷ put before (take most ys) x)) ≡ take (suc most) (cond b (x ∷ y ∷ ys) (y ∷ put before ys x))
  first_of true most x y ys later = ap (λ zs. x ∷ zs) (again most y ys)
  first_of false most x y ys later = ap (λ zs. y ∷ zs) later

  -- of the first of some and one more, as many are the first of all
  pub put_first : (most : ℕ) (xs : List X) (x : X) → take most (put before (take most xs) x) ≡ take most (put before xs x)
  put_first zero xs x = refl
  put_first (suc most) [] x = refl
  put_first (suc most) (y ∷ ys) x = first_of (before x y) most x y ys (put_first most ys x)

  -- the first of some, and one more
  pub first_more : (most : ℕ) (first later xs : List X) (x : X) → first ≡ take most (in_order before xs) →
      later ≡ take most (put before first x) → later ≡ take most (in_order before (xs ++ x ∷ []))
  first_more most first later xs x h step =
      step ∙ ap (λ z. take most (put before z x)) h ∙ put_first most (in_order before xs) x
      ∙ ap (take most) (sym (fold_push (put before) [] xs x))
