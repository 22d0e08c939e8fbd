-- Lists of keys that ascend, and that have the same keys.
use Rattle.std.proofs.Common.{◌≡◌, Bool, false, List, [], ◌∷◌, Option, Some, None, is_some, refl, sym, ap, subst, ◌∙◌, true≢false, Ordering}
use Rattle.std.specs.Ordering.{eq_by_cmp}
use Rattle.std.specs.Cmp.{IsTotalOrder, eq_by_cmp_equiv}
use Rattle.std.specs.List.{list_any, IsDistinct, dedup_from}
use Rattle.std.specs.List.Sorted.{IsStrictlySortedBy, IsPermutation, IsSorted}
use Rattle.std.specs.Map.{keys_of, lookup}
use Rattle.std.specs.BTreeMap.{is_at}
use Rattle.std.proofs.lemmas.List.Kept.{IsStrictlySortedBy-dedup}
use Rattle.std.proofs.lemmas.List.Sorted.{list_any-IsPermutation}
use Rattle.std.proofs.lemmas.Map.Keys.{IsDistinct-head, IsDistinct-tail, IsDistinct-IsPermutation}
use Rattle.std.proofs.lemmas.Map.Lookups.{CmpEqualImpliesEq}
use Rattle.std.proofs.lemmas.Map.Made.{is_some-lookup}
use Rattle.pgs_base.proofs.Lookups.{same_entries}

module _ {K : Type 0} where
  -- the keys as entries
  abbrev paired : List K → List (K × Unit {0})
  paired [] = []
  paired (k ∷ ks) = (k, tt) ∷ paired ks

  keys-paired : (ks : List K) → keys_of (paired ks) ≡ ks
  keys-paired [] = refl
  keys-paired (k ∷ ks) = ap (λ l. k ∷ l) (keys-paired ks)

  found-paired : (test : K → Bool) (ks : List K) → is_some (lookup test (paired ks)) ≡ list_any test ks
  found-paired test ks = is_some-lookup test (paired ks) ∙ ap (list_any test) (keys-paired ks)

  dedup-distinct : {eq : K → K → Bool} → ((x y : K) → eq x y ≡ eq y x) → (k : K) (ks : List K) → IsDistinct eq (k ∷ ks) → dedup_from eq k ks ≡ k ∷ ks
  dedup-distinct flips k [] distinct = refl
  dedup-distinct {eq = eq} flips k (x ∷ xs) distinct =
      let apart : eq x k ≡ false = flips x k ∙ (IsDistinct-head eq k (x ∷ xs) distinct).0 in
      rw apart (ap (λ l. k ∷ l) (dedup-distinct flips x xs (IsDistinct-tail eq k (x ∷ xs) distinct)))

same_unit : (o p : Option (Unit {0})) → is_some o ≡ is_some p → o ≡ p
same_unit None None same = refl
same_unit None (Some v) same = absurd (true≢false (sym same))
same_unit (Some u) None same = absurd (true≢false same)
same_unit (Some u) (Some v) same = refl

module _ {K : Type 0} {cmp : K → K → Ordering} (total : IsTotalOrder cmp) where
  strictly : (ks : List K) → IsDistinct (eq_by_cmp cmp) ks → IsSorted cmp ks → IsStrictlySortedBy cmp ks
  strictly [] distinct sorted = IsStrictlySortedBy-dedup total (λ x y. refl) [] sorted
  strictly (k ∷ ks) distinct sorted =
      subst (IsStrictlySortedBy cmp) (dedup-distinct (eq_by_cmp_equiv total).symm k ks distinct) (IsStrictlySortedBy-dedup total (λ x y. refl) (k ∷ ks) sorted)

  -- lists that ascend and have the same keys are equal
  pub same_keys : CmpEqualImpliesEq cmp → (ks ls : List K) → IsStrictlySortedBy cmp ks → IsStrictlySortedBy cmp ls →
      ((q : K) → list_any (is_at (cmp q)) ks ≡ list_any (is_at (cmp q)) ls) → ks ≡ ls
  same_keys exact ks ls first second same =
      sym (keys-paired ks)
      ∙ ap keys_of (same_entries total exact (paired ks) (paired ls) (subst (IsStrictlySortedBy cmp) (sym (keys-paired ks)) first) (subst (IsStrictlySortedBy cmp) (sym (keys-paired ls)) second)
      (λ q. same_unit _ _ (found-paired (is_at (cmp q)) ks ∙ same q ∙ sym (found-paired (is_at (cmp q)) ls))))
      ∙ keys-paired ls

  -- distinct keys, sorted, are the list that ascends and has them
  pub sorted_keys : CmpEqualImpliesEq cmp → (ks sorted ls : List K) → IsDistinct (eq_by_cmp cmp) ks → IsPermutation ks sorted → IsSorted cmp sorted → IsStrictlySortedBy cmp ls →
      ((q : K) → list_any (is_at (cmp q)) ks ≡ list_any (is_at (cmp q)) ls) → sorted ≡ ls
  sorted_keys exact ks sorted ls distinct moved rises ascends same =
      same_keys exact sorted ls (strictly sorted (IsDistinct-IsPermutation (eq_by_cmp cmp) (eq_by_cmp_equiv total).symm ks sorted moved distinct) rises) ascends
      (λ q. sym (list_any-IsPermutation (is_at (cmp q)) ks sorted moved) ∙ same q)
