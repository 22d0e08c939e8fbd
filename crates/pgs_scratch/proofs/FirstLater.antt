-- The first later element of a scope that shares a key value, by going over the scope.
use Rattle.std.proofs.Common.{◌≡◌, ℕ, zero, suc, ◌<◌, ◌≤◌, Bool, true, false, cond, List, [], ◌∷◌, take, get_or, length, slice_get, Option, Some, None, refl, sym, ap, ◌∙◌, arith, is_lt}
use Rattle.std.specs.Prelude.{filter, filter_map, if◌then◌else◌}
use Rattle.std.specs.List.{cons_option}
use Rattle.pgs_base.specs.declared.element.Elem.{Elem}
use Rattle.pgs_base.specs.declared.part.Part.{Part}
use Rattle.pgs_base.specs.Order.{elem_cmp}
use Rattle.pgs_violation.specs.declared.violation.Violation.{Violation}
use Rattle.pgs_violation.specs.Violations.{sharing, exclusive_violation}
use Rattle.pgs_scratch.specs.Confirmed.{sharing_if_later}
use Rattle.pgs_scratch.proofs.Found.{take_all}

module _ {X Y : Type 0} (give : X → Option Y) where
  kept_give : (test : X → Bool) (xs : List X) → filter_map (λ x. if test x then give x else None) xs ≡ filter_map give (filter test xs)
  kept_give test [] = refl
  kept_give test (x ∷ xs) = by (test x) (kept_give test xs)
    where
      by : (b : Bool) → filter_map (λ x. if test x then give x else None) xs ≡ filter_map give (filter test xs) →
          cons_option (if b then give x else None) (filter_map (λ x. if test x then give x else None) xs) ≡ filter_map give (cond b (x ∷ filter test xs) (filter test xs))
      by true rest = ap (cons_option (give x)) rest
      by false rest = rest

  none_first : (o : Option Y) (ys : List Y) → [] ≡ cons_option o ys → (o ≡ None) × ([] ≡ ys)
  none_first None ys e = (refl, e)
  none_first (Some y) ys e = cc

  first_found : (xs : List X) (i : ℕ) (d : X) → i < length xs → [] ≡ filter_map give (take i xs) → (y : Y) → Some y ≡ give (get_or xs i d) →
      Some y ≡ slice_get (filter_map give xs) 0
  first_found [] i d below before y gives = absurd (omega arith)
  first_found (x ∷ xs) zero d below before y gives = ap (λ o. slice_get (cons_option o (filter_map give xs)) 0) gives
  first_found (x ∷ xs) (suc i) d below before y gives =
      let none = none_first (give x) (filter_map give (take i xs)) before in
      first_found xs i d (omega arith) none.1 y gives ∙ ap (λ o. slice_get (cons_option o (filter_map give xs)) 0) (sym none.0)

  none_found : (xs : List X) (i : ℕ) → length xs ≤ i → [] ≡ filter_map give (take i xs) → None ≡ slice_get (filter_map give xs) 0
  none_found xs i end before = ap (λ ys. slice_get ys 0) (before ∙ ap (filter_map give) (take_all xs i end))

module _ (number : ℕ) (values : Elem → List (List Part)) (elem : Elem) (items scope : List Elem) (same : items ≡ scope) (i : ℕ)
    (before : [] ≡ filter_map (sharing_if_later number values elem) (take i items)) where
  all_is : slice_get (filter_map (sharing_if_later number values elem) items) 0 ≡ exclusive_violation number scope values elem
  all_is =
      ap (λ xs. slice_get (filter_map (sharing_if_later number values elem) xs) 0) same
      ∙ ap (λ ys. slice_get ys 0) (kept_give (sharing number values elem) (λ other. is_lt (elem_cmp elem other)) scope)

  pub sharer_found : (d : Elem) → i < length items → (v : Violation) → Some v ≡ sharing_if_later number values elem (get_or items i d) →
      Some v ≡ exclusive_violation number scope values elem
  sharer_found d below v gives = first_found (sharing_if_later number values elem) items i d below before v gives ∙ all_is

  pub no_sharer : length items ≤ i → None ≡ exclusive_violation number scope values elem
  no_sharer end = none_found (sharing_if_later number values elem) items i end before ∙ all_is
