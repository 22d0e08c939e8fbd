-- Names stay names, and properties properties, where one is put in or taken out.
use Rattle.std.proofs.Common.{◌≡◌, ℕ, Bool, true, false, cond, List, [], ◌∷◌, refl, sym, subst, Ordering, Less, Equal, Greater}
use Rattle.std.specs.Ordering.{nat_cmp, match_ordering}
use Rattle.std.specs.Cmp.{first_so, second_so}
use Rattle.std.specs.Cmp.Lexicographic.{slice_cmp, nat_list_cmp_total}
use Rattle.std.specs.List.{list_all}
use Rattle.std.specs.List.Sorted.{IsStrictlySortedBy}
use Rattle.std.specs.Map.{keys_of, remove_entry}
use Rattle.std.specs.Set.{remove_key}
use Rattle.std.specs.BTreeMap.{insert_entry}
use Rattle.std.specs.BTreeSet.{insert_key}
use Rattle.std.proofs.lemmas.Bool.{and_from}
use Rattle.pgs_base.specs.declared.value.Value.{Value}
use Rattle.pgs_base.specs.Name.{is_name}
use Rattle.pgs_base.specs.Names.{same_name, put_name, take_name, are_names}
use Rattle.pgs_base.specs.Properties.{put_value, take_value, are_props}
use Rattle.pgs_base.specs.Value.{is_value}
use Rattle.pgs_base.proofs.Ascending.{ascends_decides, ascending-insert_key, ascending-remove_key, keys-insert_entry, keys-remove_entry}

-- ---- a test that all keys, or all values, pass

module _ {K : Type 0} (cmp : K → K → Ordering) where
  pub all_with_key : (test : K → Bool) (k : K) (ks : List K) → test k ≡ true → list_all test ks ≡ true → list_all test (insert_key cmp ks k) ≡ true
  all_with_key test k [] passes all = and_from _ _ passes refl
  all_with_key test k (x ∷ xs) passes all = by (all_with_key test k xs passes (second_so _ _ all)) (cmp k x)
    where
      by : list_all test (insert_key cmp xs k) ≡ true → (o : Ordering) → list_all test (match_ordering o (k ∷ x ∷ xs) (x ∷ xs) (x ∷ insert_key cmp xs k)) ≡ true
      by rest Less = and_from _ _ passes all
      by rest Equal = all
      by rest Greater = and_from _ _ (first_so _ _ all) rest

  -- a key may stay with another value
  pub all_with_entry : {V : Type 0} (test : K × V → Bool) (k : K) (v : V) (es : List (K × V)) → test (k, v) ≡ true →
      ((e : K × V) → test e ≡ true → test (e.0, v) ≡ true) → list_all test es ≡ true → list_all test (insert_entry cmp es k v) ≡ true
  all_with_entry test k v [] passes other all = and_from _ _ passes refl
  all_with_entry test k v (e ∷ es) passes other all = by (all_with_entry test k v es passes other (second_so _ _ all)) (cmp k e.0)
    where
      by : list_all test (insert_entry cmp es k v) ≡ true → (o : Ordering) →
          list_all test (match_ordering o ((k, v) ∷ e ∷ es) ((e.0, v) ∷ es) (e ∷ insert_entry cmp es k v)) ≡ true
      by rest Less = and_from _ _ passes all
      by rest Equal = and_from _ _ (other e (first_so _ _ all)) (second_so _ _ all)
      by rest Greater = and_from _ _ (first_so _ _ all) rest

pub all_without_key : {K : Type 0} (test : K → Bool) (out : K → Bool) (ks : List K) → list_all test ks ≡ true → list_all test (remove_key out ks) ≡ true
all_without_key test out [] all = refl
all_without_key test out (x ∷ xs) all = by (all_without_key test out xs (second_so _ _ all)) (out x)
  where
    by : list_all test (remove_key out xs) ≡ true → (b : Bool) → list_all test (cond b xs (x ∷ remove_key out xs)) ≡ true
    by rest true = second_so _ _ all
    by rest false = and_from _ _ (first_so _ _ all) rest

pub all_without_entry : {K V : Type 0} (test : K × V → Bool) (out : K → Bool) (es : List (K × V)) → list_all test es ≡ true → list_all test (remove_entry out es) ≡ true
all_without_entry test out [] all = refl
all_without_entry test out (e ∷ es) all = by (all_without_entry test out es (second_so _ _ all)) (out e.0)
  where
    by : list_all test (remove_entry out es) ≡ true → (b : Bool) → list_all test (cond b es (e ∷ remove_entry out es)) ≡ true
    by rest true = second_so _ _ all
    by rest false = and_from _ _ (first_so _ _ all) rest

-- ---- names and properties

pub names_with : (names : List (List ℕ)) (name : List ℕ) → are_names names ≡ true → is_name name ≡ true → are_names (put_name names name) ≡ true
names_with names name are is =
    and_from _ _ ((ascends_decides (slice_cmp nat_cmp) _).1
    (ascending-insert_key nat_list_cmp_total name names ((ascends_decides (slice_cmp nat_cmp) names).0 (first_so _ _ are))))
    (all_with_key (slice_cmp nat_cmp) is_name name names is (second_so _ _ are))

pub names_without : (names : List (List ℕ)) (name : List ℕ) → are_names names ≡ true → are_names (take_name names name) ≡ true
names_without names name are =
    and_from _ _ ((ascends_decides (slice_cmp nat_cmp) _).1
    (ascending-remove_key nat_list_cmp_total (same_name name) names ((ascends_decides (slice_cmp nat_cmp) names).0 (first_so _ _ are))))
    (all_without_key is_name (same_name name) names (second_so _ _ are))

pub props_with : (props : List (List ℕ × Value)) (key : List ℕ) (value : Value) → are_props props ≡ true → is_name key ≡ true → is_value value ≡ true →
    are_props (put_value props key value) ≡ true
props_with props key value are name is =
    and_from _ _ (subst (λ names. are_names names ≡ true) (sym (keys-insert_entry (slice_cmp nat_cmp) key value props)) (names_with (keys_of props) key (first_so _ _ are) name))
    (all_with_entry (slice_cmp nat_cmp) (λ (entry : List ℕ × Value). is_value entry.1) key value props is (λ e passes. is) (second_so _ _ are))

pub props_without : (props : List (List ℕ × Value)) (key : List ℕ) → are_props props ≡ true → are_props (take_value props key) ≡ true
props_without props key are =
    and_from _ _ (subst (λ names. are_names names ≡ true) (sym (keys-remove_entry (same_name key) props)) (names_without (keys_of props) key (first_so _ _ are)))
    (all_without_entry (λ (entry : List ℕ × Value). is_value entry.1) (same_name key) props (second_so _ _ are))

-- ---- what vectors meet whose keys ascend

pub are_names_from : (names : List (List ℕ)) → IsStrictlySortedBy (slice_cmp nat_cmp) names → list_all is_name names ≡ true → are_names names ≡ true
are_names_from names ascend is = and_from _ _ ((ascends_decides (slice_cmp nat_cmp) names).1 ascend) is
