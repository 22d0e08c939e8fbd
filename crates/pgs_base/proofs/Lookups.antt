-- What a look-up finds after an edit of entries or keys that ascend, and when two such lists are equal.
use Rattle.std.proofs.Common.{◌≡◌, ℕ, zero, suc, ◌+◌, ◌<◌, ◌⊎◌, ⊎_elim, inl, inr, Result, Ok, Err, MatchResult, get_or, length-set, Bool, true, false, cond, ◌||◌, List, [], ◌∷◌, ◌++◌, length, Some, None, Option, is_some, unwrap_or, refl, sym, ap, subst, ◌∙◌, true≢false, arith, Ordering, Less, Equal, Greater, is_eq}
use Rattle.std.specs.Ordering.{match_ordering, ordering_reverse}
use Rattle.std.specs.Cmp.{IsTotalOrder, alike_right, tied_itself, eq_by_cmp_equiv, Equal-is}
use Rattle.std.specs.List.{AllByRecursion, list_any}
use Rattle.std.specs.List.Sorted.{IsStrictlySortedBy}
use Rattle.std.specs.Map.{keys_of, lookup, remove_entry}
use Rattle.std.specs.Set.{remove_key}
use Rattle.std.specs.BTreeMap.{is_at, insert_entry}
use Rattle.std.specs.BTreeSet.{insert_key}
use Rattle.std.proofs.lemmas.Map.Lookups.{CmpEqualImpliesEq}
use Rattle.std.proofs.lemmas.Map.{lookup-remove_entry}
use Rattle.std.proofs.lemmas.Map.Keys.{IsDistinct-from_sorted}
use Rattle.std.proofs.lemmas.Map.Made.{is_some-lookup}
use Rattle.std.proofs.lemmas.List.Edits.{length-insert, length-remove}
use Rattle.pgs_base.specs.Places.{IsKeyAt, IsKeyGap, IsEntryAt, IsEntryGap}
use Rattle.pgs_base.proofs.Ascending.{keys-insert_entry, keys-remove_entry}
use Rattle.pgs_base.proofs.Places.{place_of, key_placed, entry_placed}

-- ---- look-ups of one key

module _ {K : Type 0} {cmp : K → K → Ordering} (total : IsTotalOrder cmp) where
  turned_test : (k q : K) → is_at (cmp q) k ≡ is_at (cmp k) q
  turned_test k q = (eq_by_cmp_equiv total).symm q k

  module _ {V : Type 0} where
    -- after an entry is put in, its key finds its value, and another key what it found
    pub lookup-insert_entry : (q k : K) (v : V) (es : List (K × V)) → lookup (is_at (cmp q)) (insert_entry cmp es k v) ≡ cond (is_at (cmp k) q) (Some v) (lookup (is_at (cmp q)) es)
    lookup-insert_entry q k v [] = ap (λ b. cond b (Some v) None) (turned_test k q)
    lookup-insert_entry q k v (e ∷ es) = by (lookup-insert_entry q k v es) (cmp k e.0) refl
      where
        apart : cmp k e.0 ≡ Greater → (b c : Bool) → is_at (cmp q) e.0 ≡ b → is_at (cmp k) q ≡ c → cond b (Some e.1) (cond c (Some v) (lookup (is_at (cmp q)) es)) ≡ cond c (Some v) (cond b (Some e.1) (lookup (is_at (cmp q)) es))
        apart g true true p r = absurd (true≢false (sym p ∙ ap is_eq (sym (total.congr k q e.0 ((Equal-is (cmp k q)).0 r)) ∙ g)))
        apart g true false p r = refl
        apart g false c p r = refl

        twice : (b c : Bool) → b ≡ c → cond b (Some v) (lookup (is_at (cmp q)) es) ≡ cond c (Some v) (cond b (Some e.1) (lookup (is_at (cmp q)) es))
        twice true c h = ap (λ t. cond t (Some v) (Some e.1)) h
        twice false c h = ap (λ t. cond t (Some v) (lookup (is_at (cmp q)) es)) h

        by : lookup (is_at (cmp q)) (insert_entry cmp es k v) ≡ cond (is_at (cmp k) q) (Some v) (lookup (is_at (cmp q)) es) → (o : Ordering) → cmp k e.0 ≡ o → lookup (is_at (cmp q)) (match_ordering o ((k, v) ∷ e ∷ es) ((e.0, v) ∷ es) (e ∷ insert_entry cmp es k v)) ≡ cond (is_at (cmp k) q) (Some v) (lookup (is_at (cmp q)) (e ∷ es))
        by rest Less p = ap (λ b. cond b (Some v) (lookup (is_at (cmp q)) (e ∷ es))) (turned_test k q)
        by rest Equal p = twice _ _ (ap is_eq (sym (alike_right total k e.0 q p)) ∙ turned_test k q)
        by rest Greater p = ap (λ l. cond (is_at (cmp q) e.0) (Some e.1) l) rest ∙ apart p _ _ refl refl

    pub lookup-insert_entry_same : (k : K) (v : V) (es : List (K × V)) → lookup (is_at (cmp k)) (insert_entry cmp es k v) ≡ Some v
    lookup-insert_entry_same k v es = lookup-insert_entry k k v es ∙ ap (λ o. cond (is_eq o) (Some v) (lookup (is_at (cmp k)) es)) (tied_itself total k)

    pub lookup-insert_entry_other : (q k : K) (v : V) (es : List (K × V)) → is_at (cmp k) q ≡ false → lookup (is_at (cmp q)) (insert_entry cmp es k v) ≡ lookup (is_at (cmp q)) es
    lookup-insert_entry_other q k v es other = lookup-insert_entry q k v es ∙ ap (λ b. cond b (Some v) (lookup (is_at (cmp q)) es)) other

    -- after an entry is taken out, its key finds nothing, and another key what it found
    pub lookup-remove_key : (q k : K) (es : List (K × V)) → IsStrictlySortedBy cmp (keys_of es) → lookup (is_at (cmp q)) (remove_entry (is_at (cmp k)) es) ≡ cond (is_at (cmp k) q) None (lookup (is_at (cmp q)) es)
    lookup-remove_key q k es s = lookup-remove_entry (eq_by_cmp_equiv total) (is_at (cmp k)) (λ x y t. ap is_eq (total.congr k x y ((Equal-is (cmp k x)).0 t))) q es (IsDistinct-from_sorted cmp (keys_of es) s)

    pub lookup-remove_key_same : (k : K) (es : List (K × V)) → IsStrictlySortedBy cmp (keys_of es) → lookup (is_at (cmp k)) (remove_entry (is_at (cmp k)) es) ≡ None
    lookup-remove_key_same k es s = lookup-remove_key k k es s ∙ ap (λ o. cond (is_eq o) None (lookup (is_at (cmp k)) es)) (tied_itself total k)

    pub lookup-remove_key_other : (q k : K) (es : List (K × V)) → IsStrictlySortedBy cmp (keys_of es) → is_at (cmp k) q ≡ false → lookup (is_at (cmp q)) (remove_entry (is_at (cmp k)) es) ≡ lookup (is_at (cmp q)) es
    lookup-remove_key_other q k es s other = lookup-remove_key q k es s ∙ ap (λ b. cond b None (lookup (is_at (cmp q)) es)) other

-- ---- the same of keys

module _ {K : Type 0} where
  abbrev units : List K → List (K × Unit {0})
  units [] = []
  units (k ∷ ks) = (k, tt) ∷ units ks

  keys-units : (ks : List K) → keys_of (units ks) ≡ ks
  keys-units [] = refl
  keys-units (k ∷ ks) = ap (λ l. k ∷ l) (keys-units ks)

  any-units : (test : K → Bool) (ks : List K) → is_some (lookup test (units ks)) ≡ list_any test ks
  any-units test ks = is_some-lookup test (units ks) ∙ ap (list_any test) (keys-units ks)

module _ {K : Type 0} {cmp : K → K → Ordering} (total : IsTotalOrder cmp) where
  -- whether a key is there, after a key is put in
  pub any-insert_key : (q k : K) (ks : List K) → list_any (is_at (cmp q)) (insert_key cmp ks k) ≡ (is_at (cmp k) q || list_any (is_at (cmp q)) ks)
  any-insert_key q k ks =
      ap (λ l. list_any (is_at (cmp q)) (insert_key cmp l k)) (sym (keys-units ks)) ∙ ap (list_any (is_at (cmp q))) (sym (keys-insert_entry cmp k tt (units ks)))
      ∙ sym (is_some-lookup (is_at (cmp q)) (insert_entry cmp (units ks) k tt)) ∙ ap is_some (lookup-insert_entry total q k tt (units ks))
      ∙ either (is_at (cmp k) q) (lookup (is_at (cmp q)) (units ks)) ∙ ap (λ b. is_at (cmp k) q || b) (any-units (is_at (cmp q)) ks)
    where
      either : (b : Bool) (o : Option (Unit {0})) → is_some (cond b (Some tt) o) ≡ (b || is_some o)
      either true o = refl
      either false o = refl

  -- and after a key is taken out
  pub any-remove_key : (q k : K) (ks : List K) → IsStrictlySortedBy cmp ks → list_any (is_at (cmp q)) (remove_key (is_at (cmp k)) ks) ≡ cond (is_at (cmp k) q) false (list_any (is_at (cmp q)) ks)
  any-remove_key q k ks s =
      ap (λ l. list_any (is_at (cmp q)) (remove_key (is_at (cmp k)) l)) (sym (keys-units ks)) ∙ ap (list_any (is_at (cmp q))) (sym (keys-remove_entry (is_at (cmp k)) (units ks)))
      ∙ sym (is_some-lookup (is_at (cmp q)) (remove_entry (is_at (cmp k)) (units ks)))
      ∙ ap is_some (lookup-remove_key total q k (units ks) (subst (IsStrictlySortedBy cmp) (sym (keys-units ks)) s))
      ∙ either (is_at (cmp k) q) (lookup (is_at (cmp q)) (units ks)) ∙ ap (cond (is_at (cmp k) q) false) (any-units (is_at (cmp q)) ks)
    where
      either : (b : Bool) (o : Option (Unit {0})) → is_some (cond b None o) ≡ cond b false (is_some o)
      either true o = refl
      either false o = refl

  -- ---- edits that change nothing, and how long lists are after an edit

  module _ (k : K) (ks : List K) (s : IsStrictlySortedBy cmp ks) where
    by_place : {P : Type 0} → ((i : ℕ) → IsKeyAt cmp k ks i → P) → ((i : ℕ) → IsKeyGap cmp k ks i → P) → P
    by_place {P} at gap = by (place_of (cmp k) ks) (key_placed total k ks s)
      where
        by : (r : Result ℕ ℕ) → MatchResult r (IsKeyAt cmp k ks) (IsKeyGap cmp k ks) → P
        by (Ok i) h = at i h
        by (Err i) h = gap i h

    -- putting in a key that is there changes nothing
    pub insert_key_present : list_any (is_at (cmp k)) ks ≡ true → insert_key cmp ks k ≡ ks
    insert_key_present there = by_place (λ i h. h.inserts) (λ i h. absurd (true≢false (sym there ∙ h.absent)))

    -- nor does taking out one that isn't
    pub remove_key_absent : list_any (is_at (cmp k)) ks ≡ false → remove_key (is_at (cmp k)) ks ≡ ks
    remove_key_absent absent = by_place (λ i h. absurd (true≢false (sym h.there ∙ absent))) (λ i h. h.removes)

    pub length-insert_key : length (insert_key cmp ks k) ≡ cond (list_any (is_at (cmp k)) ks) (length ks) (length ks + 1)
    length-insert_key = by_place (λ i h. rw h.there (ap length h.inserts)) (λ i h. rw h.absent (ap length (sym h.inserts) ∙ length-insert ks i k h.in_range))

    pub length-remove_key : length (remove_key (is_at (cmp k)) ks) + cond (list_any (is_at (cmp k)) ks) 1 0 ≡ length ks
    length-remove_key = by_place
        (λ i h. rw h.there (let removed = length-remove ks i h.in_range in let e = ap length h.removes in omega arith))
        (λ i h. rw h.absent (let e = ap length h.removes in omega arith))

  module _ {V : Type 0} (k : K) (es : List (K × V)) (s : IsStrictlySortedBy cmp (keys_of es)) where
    by_entry_place : {P : Type 0} → ((i : ℕ) → IsEntryAt cmp k es i → P) → ((i : ℕ) → IsEntryGap cmp k es i → P) → P
    by_entry_place {P} at gap = by (place_of (λ e. cmp k e.0) es) (entry_placed total k es s)
      where
        by : (r : Result ℕ ℕ) → MatchResult r (IsEntryAt cmp k es) (IsEntryGap cmp k es) → P
        by (Ok i) h = at i h
        by (Err i) h = gap i h

    pub remove_entry_absent : lookup (is_at (cmp k)) es ≡ None → remove_entry (is_at (cmp k)) es ≡ es
    remove_entry_absent absent = by_entry_place (λ i h. absurd (true≢false (sym h.there ∙ ap is_some absent))) (λ i h. h.removes)

    pub length-insert_entry : (v : V) → length (insert_entry cmp es k v) ≡ cond (is_some (lookup (is_at (cmp k)) es)) (length es) (length es + 1)
    length-insert_entry v = by_entry_place
        (λ i h. rw h.there (ap length (sym (h.sets v (k, v))) ∙ length-set es i _))
        (λ i h. rw h.absent (ap length (sym (h.inserts v)) ∙ length-insert es i (k, v) h.in_range))

    pub length-remove_entry : length (remove_entry (is_at (cmp k)) es) + cond (is_some (lookup (is_at (cmp k)) es)) 1 0 ≡ length es
    length-remove_entry = by_entry_place
        (λ i h. rw h.there (let removed = length-remove es i h.in_range in let e = ap length h.removes in omega arith))
        (λ i h. rw h.absent (let e = ap length h.removes in omega arith))

  -- ---- a key above all others goes last

  above_all : (x : K) (xs : List K) (k : K) → AllByRecursion (λ y. cmp x y ≡ Less) (xs ++ k ∷ []) → cmp k x ≡ Greater
  above_all x [] k a = total.antisymm k x ∙ ap ordering_reverse a.0
  above_all x (y ∷ ys) k a = above_all x ys k a.1

  pub insert_key_last : (ks : List K) (k : K) → IsStrictlySortedBy cmp (ks ++ k ∷ []) → insert_key cmp ks k ≡ ks ++ k ∷ []
  unfolding IsStrictlySortedBy
  insert_key_last [] k s = refl
  insert_key_last (x ∷ xs) k s = rw (above_all x xs k s.0) (ap (λ l. x ∷ l) (insert_key_last xs k s.1))

  pub insert_entry_last : {V : Type 0} (es : List (K × V)) (k : K) (v : V) → IsStrictlySortedBy cmp (keys_of (es ++ (k, v) ∷ [])) → insert_entry cmp es k v ≡ es ++ (k, v) ∷ []
  unfolding IsStrictlySortedBy
  insert_entry_last {V} es k v s = at es (subst (IsStrictlySortedBy cmp) (keys-push es) s)
    where
      keys-push : (fs : List (K × V)) → keys_of (fs ++ (k, v) ∷ []) ≡ keys_of fs ++ k ∷ []
      keys-push [] = refl
      keys-push (f ∷ fs) = ap (λ l. f.0 ∷ l) (keys-push fs)

      at : (fs : List (K × V)) → IsStrictlySortedBy cmp (keys_of fs ++ k ∷ []) → insert_entry cmp fs k v ≡ fs ++ (k, v) ∷ []
      at [] s = refl
      at (f ∷ fs) s = rw (above_all f.0 (keys_of fs) k s.0) (ap (λ l. f ∷ l) (at fs s.1))

  -- ---- each entry is found under its key, and equal look-ups mean equal entries

  abbrev find : {V : Type 0} → List (K × V) → K → Option V
  find es q = lookup (is_at (cmp q)) es

  none_above : {V : Type 0} (q : K) (es : List (K × V)) → AllByRecursion (λ y. cmp q y ≡ Less) (keys_of es) → find es q ≡ None
  none_above q [] a = refl
  none_above q (e ∷ es) a = rw a.0 (none_above q es a.1)

  all_above : (q x : K) (ks : List K) → cmp q x ≡ Less ⊎ (cmp q x ≡ Equal) → AllByRecursion (λ y. cmp x y ≡ Less) ks → AllByRecursion (λ y. cmp q y ≡ Less) ks
  all_above q x [] h a = tt
  all_above q x (y ∷ ys) h a = (⊎_elim (λ less. total.trans q x y less a.0) (λ same. total.congr q x y same ∙ a.0) h, all_above q x ys h a.1)

  pub found_at_place : {V : Type 0} (es : List (K × V)) → IsStrictlySortedBy cmp (keys_of es) → (i : ℕ) (d : K × V) → i < length es → lookup (is_at (cmp (get_or es i d).0)) es ≡ Some (get_or es i d).1
  unfolding IsStrictlySortedBy
  found_at_place {V} [] s i d lt = absurd (omega arith)
  found_at_place {V} (e ∷ es) s zero d lt = rw (tied_itself total e.0)
  found_at_place {V} (e ∷ es) s (suc i) d lt = rw (later es s.0 i (omega arith)) (found_at_place es s.1 i d (omega arith))
    where
      later : (fs : List (K × V)) → AllByRecursion (λ y. cmp e.0 y ≡ Less) (keys_of fs) → (j : ℕ) → j < length fs → cmp (get_or fs j d).0 e.0 ≡ Greater
      later [] a j lt = absurd (omega arith)
      later (f ∷ fs) a zero lt = total.antisymm f.0 e.0 ∙ ap ordering_reverse a.0
      later (f ∷ fs) a (suc j) lt = later fs a.1 j (omega arith)

  module _ {V : Type 0} (exact : CmpEqualImpliesEq cmp) where
    not_none : (v : V) → Some v ≡ None → ⊥
    not_none v e = true≢false (ap is_some e)

    at_head : (x : K × V) (xs : List (K × V)) → find (x ∷ xs) x.0 ≡ Some x.1
    at_head x xs = rw (tied_itself total x.0)

    -- lists that ascend and answer each query alike are equal
    pub same_entries : (es fs : List (K × V)) → IsStrictlySortedBy cmp (keys_of es) → IsStrictlySortedBy cmp (keys_of fs) → ((q : K) → lookup (is_at (cmp q)) es ≡ lookup (is_at (cmp q)) fs) → es ≡ fs
    unfolding IsStrictlySortedBy
    same_entries [] [] s t h = refl
    same_entries [] (y ∷ ys) s t h = absurd (not_none y.1 (sym (h y.0 ∙ at_head y ys)))
    same_entries (x ∷ xs) [] s t h = absurd (not_none x.1 (sym (at_head x xs) ∙ h x.0))
    same_entries (x ∷ xs) (y ∷ ys) s t h = by (λ r. same_entries xs ys s.1 t.1 r) (cmp x.0 y.0) refl
      where
        value : cmp x.0 y.0 ≡ Equal → x.1 ≡ y.1
        value e = let found : find (y ∷ ys) x.0 ≡ Some y.1 = rw e in ap (λ o. unwrap_or o x.1) (sym (at_head x xs) ∙ h x.0 ∙ found)

        tail : cmp x.0 y.0 ≡ Equal → (q : K) (o : Ordering) → cmp q x.0 ≡ o → find xs q ≡ find ys q
        tail e q Less p = none_above q xs (all_above q x.0 (keys_of xs) (inl p) s.0) ∙ sym (none_above q ys (all_above q y.0 (keys_of ys) (inl (sym (alike_right total x.0 y.0 q e) ∙ p)) t.0))
        tail e q Equal p = none_above q xs (all_above q x.0 (keys_of xs) (inr p) s.0) ∙ sym (none_above q ys (all_above q y.0 (keys_of ys) (inr (sym (alike_right total x.0 y.0 q e) ∙ p)) t.0))
        tail e q Greater p = let other : cmp q y.0 ≡ Greater = sym (alike_right total x.0 y.0 q e) ∙ p in let found = h q in rw p at (rw other at found)

        by : (((q : K) → find xs q ≡ find ys q) → xs ≡ ys) → (o : Ordering) → cmp x.0 y.0 ≡ o → (x ∷ xs) ≡ (y ∷ ys)
        by rest Less e = absurd (not_none x.1 (sym (at_head x xs) ∙ h x.0 ∙ none_above x.0 (y ∷ ys) (e, all_above x.0 y.0 (keys_of ys) (inl e) t.0)))
        by rest Equal e = let tails = rest (λ q. tail e q (cmp q x.0) refl) in λ i. (exact x.0 y.0 e i, value e i) ∷ tails i
        by rest Greater e =
            let less : cmp y.0 x.0 ≡ Less = total.antisymm y.0 x.0 ∙ ap ordering_reverse e in
            absurd (not_none y.1 (sym (at_head y ys) ∙ sym (h y.0) ∙ none_above y.0 (x ∷ xs) (less, all_above y.0 x.0 (keys_of xs) (inl less) s.0)))

  -- the same of keys
  pub same_keys : CmpEqualImpliesEq cmp → (ks js : List K) → IsStrictlySortedBy cmp ks → IsStrictlySortedBy cmp js → ((q : K) → list_any (is_at (cmp q)) ks ≡ list_any (is_at (cmp q)) js) → ks ≡ js
  same_keys exact ks js s t h =
      let same = same_entries exact (units ks) (units js) (subst (IsStrictlySortedBy cmp) (sym (keys-units ks)) s) (subst (IsStrictlySortedBy cmp) (sym (keys-units js)) t) (λ q. by _ _ (any-units (is_at (cmp q)) ks ∙ h q ∙ sym (any-units (is_at (cmp q)) js))) in
      sym (keys-units ks) ∙ ap keys_of same ∙ keys-units js
    where
      by : (o p : Option (Unit {0})) → is_some o ≡ is_some p → o ≡ p
      by None None e = refl
      by (Some x) (Some y) e = refl
      by None (Some y) e = absurd (true≢false (sym e))
      by (Some x) None e = absurd (true≢false e)
