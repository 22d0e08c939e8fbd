-- Edits keep keys ascending, and what a look-up finds after an edit.
use Rattle.std.proofs.Common.{◌≡◌, true≢false, Decides, is_lt, Bool, true, false, cond, List, [], ◌∷◌, refl, sym, ap, subst, ◌∙◌, Ordering, Less, Equal, Greater}
use Rattle.std.specs.Ordering.{match_ordering, ordering_reverse}
use Rattle.std.specs.Cmp.{IsTotalOrder, first_so, second_so}
use Rattle.std.specs.List.{AllByRecursion, list_all}
use Rattle.std.specs.List.Sorted.{IsStrictlySortedBy}
use Rattle.std.specs.Map.{keys_of, remove_entry}
use Rattle.std.specs.Set.{remove_key}
use Rattle.std.specs.BTreeMap.{insert_entry}
use Rattle.std.specs.BTreeSet.{insert_key}
use Rattle.pgs_base.specs.Order.{ascends}

module _ {K V : Type 0} where
  -- the keys after an entry is put in
  pub keys-insert_entry : (cmp : K → K → Ordering) (k : K) (v : V) (es : List (K × V)) → keys_of (insert_entry cmp es k v) ≡ insert_key cmp (keys_of es) k
  keys-insert_entry cmp k v [] = refl
  keys-insert_entry cmp k v (e ∷ es) = by (keys-insert_entry cmp k v es) (cmp k e.0)
    where
      by : keys_of (insert_entry cmp es k v) ≡ insert_key cmp (keys_of es) k → (o : Ordering) → keys_of (match_ordering o ((k, v) ∷ e ∷ es) ((e.0, v) ∷ es) (e ∷ insert_entry cmp es k v)) ≡ match_ordering o (k ∷ e.0 ∷ keys_of es) (e.0 ∷ keys_of es) (e.0 ∷ insert_key cmp (keys_of es) k)
      by rest Less = refl
      by rest Equal = refl
      by rest Greater = ap (λ l. e.0 ∷ l) rest

  -- the keys after an entry is taken out
  pub keys-remove_entry : (test : K → Bool) (es : List (K × V)) → keys_of (remove_entry test es) ≡ remove_key test (keys_of es)
  keys-remove_entry test [] = refl
  keys-remove_entry test (e ∷ es) = by (keys-remove_entry test es) (test e.0)
    where
      by : keys_of (remove_entry test es) ≡ remove_key test (keys_of es) → (b : Bool) → keys_of (cond b es (e ∷ remove_entry test es)) ≡ cond b (keys_of es) (e.0 ∷ remove_key test (keys_of es))
      by rest true = refl
      by rest false = ap (λ l. e.0 ∷ l) rest

module _ {K : Type 0} {cmp : K → K → Ordering} (total : IsTotalOrder cmp) where
  all_insert_key : (P : K → Type 0) (k : K) (ks : List K) → P k → AllByRecursion P ks → AllByRecursion P (insert_key cmp ks k)
  all_insert_key P k [] p a = (p, tt)
  all_insert_key P k (x ∷ xs) p a = by (all_insert_key P k xs p a.1) (cmp k x)
    where
      by : AllByRecursion P (insert_key cmp xs k) → (o : Ordering) → AllByRecursion P (match_ordering o (k ∷ x ∷ xs) (x ∷ xs) (x ∷ insert_key cmp xs k))
      by rest Less = (p, a)
      by rest Equal = a
      by rest Greater = (a.0, rest)

  all_remove_key : (P : K → Type 0) (test : K → Bool) (ks : List K) → AllByRecursion P ks → AllByRecursion P (remove_key test ks)
  all_remove_key P test [] a = tt
  all_remove_key P test (x ∷ xs) a = by (all_remove_key P test xs a.1) (test x)
    where
      by : AllByRecursion P (remove_key test xs) → (b : Bool) → AllByRecursion P (cond b xs (x ∷ remove_key test xs))
      by rest true = a.1
      by rest false = (a.0, rest)

  all_below : (k x : K) (xs : List K) → cmp k x ≡ Less → AllByRecursion (λ y. cmp x y ≡ Less) xs → AllByRecursion (λ y. cmp k y ≡ Less) xs
  all_below k x [] less a = tt
  all_below k x (y ∷ ys) less a = (total.trans k x y less a.0, all_below k x ys less a.1)

  -- a key put in keeps the keys ascending
  pub ascending-insert_key : (k : K) (ks : List K) → IsStrictlySortedBy cmp ks → IsStrictlySortedBy cmp (insert_key cmp ks k)
  unfolding IsStrictlySortedBy
  ascending-insert_key k [] s = (tt, tt)
  ascending-insert_key k (x ∷ xs) s = by (ascending-insert_key k xs s.1) (cmp k x) refl
    where
      by : IsStrictlySortedBy cmp (insert_key cmp xs k) → (o : Ordering) → cmp k x ≡ o → IsStrictlySortedBy cmp (match_ordering o (k ∷ x ∷ xs) (x ∷ xs) (x ∷ insert_key cmp xs k))
      by rest Less e = ((e, all_below k x xs e s.0), s)
      by rest Equal e = s
      by rest Greater e = (all_insert_key (λ y. cmp x y ≡ Less) k xs (total.antisymm x k ∙ ap ordering_reverse e) s.0, rest)

  -- so does a key taken out
  pub ascending-remove_key : (test : K → Bool) (ks : List K) → IsStrictlySortedBy cmp ks → IsStrictlySortedBy cmp (remove_key test ks)
  unfolding IsStrictlySortedBy
  ascending-remove_key test [] s = tt
  ascending-remove_key test (x ∷ xs) s = by (ascending-remove_key test xs s.1) (test x)
    where
      by : IsStrictlySortedBy cmp (remove_key test xs) → (b : Bool) → IsStrictlySortedBy cmp (cond b xs (x ∷ remove_key test xs))
      by rest true = s.1
      by rest false = (all_remove_key (λ y. cmp x y ≡ Less) test xs s.0, rest)

  -- the same of entries
  pub ascending-insert_entry : {V : Type 0} (k : K) (v : V) (es : List (K × V)) → IsStrictlySortedBy cmp (keys_of es) → IsStrictlySortedBy cmp (keys_of (insert_entry cmp es k v))
  ascending-insert_entry k v es s = subst (IsStrictlySortedBy cmp) (sym (keys-insert_entry cmp k v es)) (ascending-insert_key k (keys_of es) s)

  pub ascending-remove_entry : {V : Type 0} (test : K → Bool) (es : List (K × V)) → IsStrictlySortedBy cmp (keys_of es) → IsStrictlySortedBy cmp (keys_of (remove_entry test es))
  ascending-remove_entry test es s = subst (IsStrictlySortedBy cmp) (sym (keys-remove_entry test es)) (ascending-remove_key test (keys_of es) s)

-- no keys ascend
pub ascending_none : {K : Type 0} (cmp : K → K → Ordering) (ks : List K) → ks ≡ [] → IsStrictlySortedBy cmp ks
unfolding IsStrictlySortedBy
ascending_none cmp ks e = subst (IsStrictlySortedBy cmp) (sym e) none
  where
    none : IsStrictlySortedBy cmp []
    none = tt

-- `ascends` of the plain graph decides what the rows' contracts say
module _ {K : Type 0} (cmp : K → K → Ordering) where
  all_from_test : (k : K) (ks : List K) → list_all (λ later. is_lt (cmp k later)) ks ≡ true → AllByRecursion (λ y. cmp k y ≡ Less) ks
  all_from_test k [] h = tt
  all_from_test k (x ∷ xs) h = (less (cmp k x) (first_so _ _ h), all_from_test k xs (second_so _ _ h))
    where
      less : (o : Ordering) → is_lt o ≡ true → o ≡ Less
      less Less e = refl
      less Equal e = absurd (true≢false (sym e))
      less Greater e = absurd (true≢false (sym e))

  test_from_all : (k : K) (ks : List K) → AllByRecursion (λ y. cmp k y ≡ Less) ks → list_all (λ later. is_lt (cmp k later)) ks ≡ true
  test_from_all k [] a = refl
  test_from_all k (x ∷ xs) a = rw a.0 (test_from_all k xs a.1)

  pub ascends_decides : (ks : List K) → Decides (ascends cmp ks) (IsStrictlySortedBy cmp ks)
  unfolding IsStrictlySortedBy
  ascends_decides [] = (λ e. tt, λ s. refl)
  ascends_decides (k ∷ ks) = (
    λ e. (all_from_test k ks (first_so _ _ e), (ascends_decides ks).0 (second_so _ _ e)),
    λ s. rw (test_from_all k ks s.0) ((ascends_decides ks).1 s.1),
  )
