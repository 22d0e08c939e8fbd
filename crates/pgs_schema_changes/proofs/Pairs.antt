-- Two lists, item by item.
use Rattle.std.proofs.Common.{◌≡◌, Bool, ◌&&◌, List, [], ◌∷◌, length, refl, ap, ◌∙◌, arith}
use Rattle.std.specs.List.{list_all, zip}
use Rattle.std.specs.Cmp.Lexicographic.{pointwise}

pairs_pass : {X : Type 0} (test : X → X → Bool) (xs ys : List X) → length xs ≡ length ys → list_all (λ (pair : X × X). test pair.0 pair.1) (zip xs ys) ≡ pointwise test xs ys
pairs_pass test [] [] same = refl
pairs_pass test [] (y ∷ ys) same = absurd (omega arith)
pairs_pass test (x ∷ xs) [] same = absurd (omega arith)
pairs_pass test (x ∷ xs) (y ∷ ys) same = ap (λ rest. test x y && rest) (pairs_pass test xs ys (omega arith))

-- lists of one length pass a test item by item where all their pairs do
pub by_pairs : {X : Type 0} (test : X → X → Bool) (xs ys : List X) (result : Bool) → result ≡ list_all (λ (pair : X × X). test pair.0 pair.1) (zip xs ys) → length xs ≡ length ys → result ≡ pointwise test xs ys
by_pairs test xs ys result is same = is ∙ pairs_pass test xs ys same
