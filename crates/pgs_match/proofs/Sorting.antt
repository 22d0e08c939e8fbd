-- The order of elements that is derived is the one of the definitions, and what sorting by an order and leaving repeats out gives.
use Rattle.std.proofs.Common.{rules, ◌≡◌, ℕ, ◌+◌, ◌≤◌, Bool, true, false, cond, arith, ◌&&◌, List, [], ◌∷◌, refl, sym, ◌∙◌, ap, Ordering, is_lt}
use Rattle.std.specs.Ordering.{is_eq, eq_by_cmp}
use Rattle.std.specs.Cmp.{IsTotalOrder, IsEquivalence, eq_by_cmp_equiv}
use Rattle.std.specs.List.{Contains, list_any, list_all, dedup, dedup_from, sum_by}
use Rattle.std.specs.List.Sorted.{IsStrictlySortedBy}
use Rattle.std.specs.BTreeMap.{is_at}
use Rattle.std.proofs.lemmas.List.Folds.{list_any-from_Any}
use Rattle.std.proofs.lemmas.List.Kept.{Any-dedup}
use Rattle.std.proofs.lemmas.List.Sums.{sum_by-cons}
use Rattle.pgs_base.specs.contracts.element.ElemOrd.TheImpl as elem_ord
use Rattle.pgs_base.specs.declared.element.Elem.{Elem}
use Rattle.pgs_base.specs.declared.element.Elem.TheVariants.{Node, Edge}
use Rattle.pgs_base.specs.Order.{ascends, elem_cmp}
use Rattle.pgs_base.proofs.Ascending.{ascends_decides}
use Rattle.pgs_syntax.specs.Matches.{same_elem}
use Rattle.pgs_syntax.proofs.Halves.{any_same}

module _ {K : Type 0} {cmp : K → K → Ordering} (total : IsTotalOrder cmp) {same : K → K → Bool} (ties : (x y : K) → same x y ≡ eq_by_cmp cmp x y) where
  equivalence : IsEquivalence same
  equivalence =
      let by = eq_by_cmp_equiv total in
      record {
        refl = λ x. ties x x ∙ by.refl x;
        symm = λ x y. ties x y ∙ by.symm x y ∙ sym (ties y x);
        congr = λ x y z h. ties x z ∙ by.congr x y z (sym (ties x y) ∙ h) ∙ sym (ties y z);
      }

  -- an item is found where repeats are left out
  pub kept_once : (xs : List K) (x : K) → Contains xs x → list_any (is_at (cmp x)) (dedup same xs) ≡ true
  kept_once xs x inside =
      let it = Any-dedup equivalence xs x inside in
      list_any-from_Any (is_at (cmp x)) (dedup same xs) (it.0, it.1, it.2, it.3, sym (ties x it.1) ∙ it.4)

-- ---- elements

cmp_is : (x y : Elem) → (elem_ord.ghosts).cmp x y ≡ elem_cmp x y
cmp_is (Node a) (Node b) = search rules
cmp_is (Node a) (Edge b) = refl
cmp_is (Edge a) (Node b) = refl
cmp_is (Edge a) (Edge b) = search rules

pub one_by_order : (x : Elem) (xs : List Elem) → list_any (is_at ((elem_ord.ghosts).cmp x)) xs ≡ true → list_any (same_elem x) xs ≡ true
one_by_order x xs some = any_same (same_elem x) (is_at ((elem_ord.ghosts).cmp x)) (λ y. ap is_eq (sym (cmp_is x y))) xs ∙ some

all_above : (x : Elem) (xs : List Elem) → list_all (λ later. is_lt ((elem_ord.ghosts).cmp x later)) xs ≡ list_all (λ later. is_lt (elem_cmp x later)) xs
all_above x [] = refl
all_above x (y ∷ ys) =
    ap (λ b. b && list_all (λ later. is_lt ((elem_ord.ghosts).cmp x later)) ys) (ap is_lt (cmp_is x y)) ∙ ap (λ rest. is_lt (elem_cmp x y) && rest) (all_above x ys)

ascends_alike : (xs : List Elem) → ascends (elem_ord.ghosts).cmp xs ≡ ascends elem_cmp xs
ascends_alike [] = refl
ascends_alike (x ∷ xs) =
    ap (λ b. b && ascends (elem_ord.ghosts).cmp xs) (all_above x xs) ∙ ap (λ rest. list_all (λ later. is_lt (elem_cmp x later)) xs && rest) (ascends_alike xs)

pub rises : (xs : List Elem) → IsStrictlySortedBy (elem_ord.ghosts).cmp xs → ascends elem_cmp xs ≡ true
rises xs sorted = sym (ascends_alike xs) ∙ (ascends_decides (elem_ord.ghosts).cmp xs).1 sorted

-- ---- sums

-- whatever is counted of each, where repeats are left out it is no more
from_fewer : {X : Type 0} (count : X → ℕ) (same : X → X → Bool) (k : X) (xs : List X) → sum_by count (dedup_from same k xs) ≤ count k + sum_by count xs
from_fewer count same k [] = let cons = sum_by-cons count k [] in omega (arith, cons)
from_fewer {X} count same k (x ∷ xs) = by (same x k) (from_fewer count same k xs) (from_fewer count same x xs)
  where
    by : (b : Bool) → sum_by count (dedup_from same k xs) ≤ count k + sum_by count xs → sum_by count (dedup_from same x xs) ≤ count x + sum_by count xs →
        sum_by count (cond b (dedup_from same k xs) (k ∷ dedup_from same x xs)) ≤ count k + sum_by count (x ∷ xs)
    by true left rest = let more = sum_by-cons count x xs in omega (arith, left, more)
    by false left rest =
        let more = sum_by-cons count x xs in
        let cons = sum_by-cons count k (dedup_from same x xs) in
        omega (arith, rest, more, cons)

pub fewer_once : {X : Type 0} (count : X → ℕ) (same : X → X → Bool) (xs : List X) → sum_by count (dedup same xs) ≤ sum_by count xs
fewer_once count same [] = omega arith
fewer_once count same (x ∷ xs) = let rest = from_fewer count same x xs in let cons = sum_by-cons count x xs in omega (arith, rest, cons)
