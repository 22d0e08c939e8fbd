-- What stands at the place of a query, and what an edit there does.
use Rattle.std.proofs.Common.{◌≡◌, ℕ, zero, suc, ◌<◌, ◌≤◌, true, false, List, [], ◌∷◌, length, get_or, set, is_some, Some, None, Result, Ok, Err, MatchResult, HoldsAt, insert, remove, refl, sym, ap, subst, ◌∙◌, true≢false, arith, Ordering, Less, Equal, Greater, is_eq, is_gt}
use Rattle.std.specs.Ordering.{match_ordering, ordering_reverse, ordering_index}
use Rattle.std.specs.Cmp.{IsTotalOrder}
use Rattle.std.specs.List.{AllByRecursion, AllWithin, list_any}
use Rattle.std.specs.List.Sorted.{IsSearchInRange, IsBinarySearchResult, IsNonDecreasingBy, IsStrictlySortedBy}
use Rattle.std.specs.Map.{keys_of, lookup, remove_entry}
use Rattle.std.specs.Set.{remove_key}
use Rattle.std.specs.BTreeMap.{is_at, insert_entry}
use Rattle.std.specs.BTreeSet.{insert_key}
use Rattle.pgs_base.specs.Places.{IsKeyAt, IsKeyGap, IsEntryAt, IsEntryGap}
use Rattle.pgs_base.proofs.Ascending.{ascending-insert_key, ascending-remove_key, ascending-insert_entry, ascending-remove_entry}

-- the same answer, one place further on
abbrev pub one_further : Result ℕ ℕ → Result ℕ ℕ
one_further (Ok i) = Ok (suc i)
one_further (Err i) = Err (suc i)

-- the place of the first item that the query is not above: `Ok` where it is equal to that item, and else `Err`
abbrev pub place_of : {X : Type 0} → (X → Ordering) → List X → Result ℕ ℕ
place_of compare [] = Err 0
place_of compare (x ∷ xs) = match_ordering (compare x) (Err 0) (Ok 0) (one_further (place_of compare xs))

module _ {X : Type 0} (compare : X → Ordering) where
  -- all items after one that the query is not above are above the query
  abbrev pub IsParted : List X → Type 0
  IsParted [] = Unit {0}
  IsParted (x ∷ xs) = (is_gt (compare x) ≡ false → AllByRecursion (λ y. compare y ≡ Less) xs) × IsParted xs

  at_place : (P : X → Type 0) (xs : List X) (i : ℕ) (d : X) → i < length xs → AllByRecursion P xs → P (get_or xs i d)
  at_place P [] i d lt a = absurd (omega arith)
  at_place P (x ∷ xs) zero d lt a = a.0
  at_place P (x ∷ xs) (suc i) d lt a = at_place P xs i d (omega arith) a.1

  -- an item before one that the query is not below is below the query
  above_earlier : (x : X) (xs : List X) (i : ℕ) → i < length xs → IsParted (x ∷ xs) → (compare (get_or xs i x) ≡ Less → ⊥) → compare x ≡ Greater
  above_earlier x xs i lt p not_less = by (compare x) refl
    where
      by : (o : Ordering) → compare x ≡ o → o ≡ Greater
      by Less e = absurd (not_less (at_place (λ y. compare y ≡ Less) xs i x lt (p.0 (ap is_gt e))))
      by Equal e = absurd (not_less (at_place (λ y. compare y ≡ Less) xs i x lt (p.0 (ap is_gt e))))
      by Greater e = refl

  step : (x : X) (xs : List X) (o : Ordering) → compare x ≡ o → place_of compare (x ∷ xs) ≡ match_ordering o (Err 0) (Ok 0) (one_further (place_of compare xs))
  step x xs o e = ap (λ r. match_ordering r (Err 0) (Ok 0) (one_further (place_of compare xs))) e

  place_found : (xs : List X) (i : ℕ) → i < length xs → HoldsAt (λ y. compare y ≡ Equal) xs i → IsParted xs → place_of compare xs ≡ Ok i
  place_found [] i lt h p = absurd (omega arith)
  place_found (x ∷ xs) zero lt h p = step x xs Equal (h x)
  place_found (x ∷ xs) (suc i) lt h p =
      let greater = above_earlier x xs i (omega arith) p (λ less. absurd (true≢false (ap is_eq (sym (h x) ∙ less)))) in
      step x xs Greater greater ∙ ap one_further (place_found xs i (omega arith) h p.1)

  place_gap : (xs : List X) (i : ℕ) → i ≤ length xs → AllWithin (λ y. compare y ≡ Greater) xs 0 i → AllWithin (λ y. compare y ≡ Less) xs i (length xs) → place_of compare xs ≡ Err i
  place_gap [] zero lt above below = refl
  place_gap [] (suc i) lt above below = absurd (omega arith)
  place_gap (x ∷ xs) zero lt above below = step x xs Less (below 0 x (omega arith) (omega arith))
  place_gap (x ∷ xs) (suc i) lt above below =
      step x xs Greater (above 0 x (omega arith) (omega arith)) ∙ ap one_further (place_gap xs i (omega arith) (λ k d low high. above (suc k) d (omega arith) (omega arith)) (λ k d low high. below (suc k) d (omega arith) (omega arith)))

  -- what an item answers of the query
  abbrev answer : X → Ordering
  answer y = ordering_reverse (compare y)

  index_top : (o : Ordering) → ordering_index o ≤ 2
  index_top Less = omega arith
  index_top Equal = omega arith
  index_top Greater = omega arith

  rises : (xs : List X) → IsParted xs → IsNonDecreasingBy (λ y. ordering_index (answer y)) xs
  rises [] p i j d le lt = absurd (omega arith)
  rises (x ∷ xs) p zero zero d le lt = omega arith
  rises (x ∷ xs) p zero (suc j) d le lt = by (compare x) refl
    where
      top : AllByRecursion (λ y. compare y ≡ Less) xs → ordering_index (answer x) ≤ ordering_index (answer (get_or xs j d))
      top all = rw (at_place (λ y. compare y ≡ Less) xs j d (omega arith) all) (index_top (answer x))

      by : (o : Ordering) → compare x ≡ o → ordering_index (answer x) ≤ ordering_index (answer (get_or xs j d))
      by Less e = top (p.0 (ap is_gt e))
      by Equal e = top (p.0 (ap is_gt e))
      by Greater e = let low : ordering_index (answer x) ≡ 0 = ap (λ o. ordering_index (ordering_reverse o)) e in omega arith
  rises (x ∷ xs) p (suc i) zero d le lt = absurd (omega arith)
  rises (x ∷ xs) p (suc i) (suc j) d le lt = rises xs p.1 i j d (omega arith) (omega arith)

  unreversed : (o r : Ordering) → ordering_reverse o ≡ r → o ≡ ordering_reverse r
  unreversed Less r e = ap ordering_reverse e
  unreversed Equal r e = ap ordering_reverse e
  unreversed Greater r e = ap ordering_reverse e

  -- a binary search among parted items ends at the query's place
  searched_reversed : (xs : List X) (r : Result ℕ ℕ) → IsParted xs → IsSearchInRange r (length xs) → IsBinarySearchResult answer xs r → r ≡ place_of compare xs
  searched_reversed xs (Ok i) p in_range found = sym (place_found xs i in_range (λ d. unreversed _ _ (found d)) p)
  searched_reversed xs (Err i) p in_range gap =
      let parts = gap (rises xs p) in
      sym (place_gap xs i in_range (λ k d low high. unreversed _ _ (parts.0 k d low high)) (λ k d low high. unreversed _ _ (parts.1 k d low high)))

  pub searched : (by_item : X → Ordering) → ((y : X) → by_item y ≡ ordering_reverse (compare y)) → (xs : List X) (r : Result ℕ ℕ) → IsParted xs → IsSearchInRange r (length xs) → IsBinarySearchResult by_item xs r → r ≡ place_of compare xs
  searched by_item turned xs r p in_range h = searched_reversed xs r p in_range (subst (λ f. IsBinarySearchResult f xs r) (λ i y. turned y i) h)

all_weaker : {X : Type 0} (P Q : X → Type 0) → ((x : X) → P x → Q x) → (xs : List X) → AllByRecursion P xs → AllByRecursion Q xs
all_weaker P Q f [] a = tt
all_weaker P Q f (x ∷ xs) a = (f x a.0, all_weaker P Q f xs a.1)

module _ {K : Type 0} {cmp : K → K → Ordering} (total : IsTotalOrder cmp) (k : K) where
  below_later : (x y : K) → is_gt (cmp k x) ≡ false → cmp x y ≡ Less → cmp k y ≡ Less
  below_later x y not_above less = by (cmp k x) refl
    where
      by : (o : Ordering) → cmp k x ≡ o → cmp k y ≡ Less
      by Less e = total.trans k x y e less
      by Equal e = total.congr k x y e ∙ less
      by Greater e = absurd (true≢false (sym (ap is_gt e) ∙ not_above))

  -- keys that ascend are parted by each query
  pub parted_keys : (ks : List K) → IsStrictlySortedBy cmp ks → IsParted (cmp k) ks
  unfolding IsStrictlySortedBy
  parted_keys [] s = tt
  parted_keys (x ∷ xs) s = (λ not_above. all_weaker _ _ (λ y less. below_later x y not_above less) xs s.0, parted_keys xs s.1)

  pub parted_entries : {V : Type 0} (es : List (K × V)) → IsStrictlySortedBy cmp (keys_of es) → IsParted (λ e. cmp k e.0) es
  parted_entries {V} es s = from_keys es (parted_keys (keys_of es) s)
    where
      all_entries : (es : List (K × V)) → AllByRecursion (λ x. cmp k x ≡ Less) (keys_of es) → AllByRecursion (λ e. cmp k e.0 ≡ Less) es
      all_entries [] a = tt
      all_entries (e ∷ es) a = (a.0, all_entries es a.1)

      from_keys : (es : List (K × V)) → IsParted (cmp k) (keys_of es) → IsParted (λ e. cmp k e.0) es
      from_keys [] p = tt
      from_keys (e ∷ es) p = (λ not_above. all_entries es (p.0 not_above), from_keys es p.1)

module _ {K : Type 0} {cmp : K → K → Ordering} (total : IsTotalOrder cmp) (k : K) where
  none_above : (xs : List K) → AllByRecursion (λ y. cmp k y ≡ Less) xs → (list_any (is_at (cmp k)) xs ≡ false) × (remove_key (is_at (cmp k)) xs ≡ xs)
  none_above [] a = (refl, refl)
  none_above (x ∷ xs) a =
      let rest = none_above xs a.1 in
      (rw a.0 rest.0, rw a.0 (ap (λ l. x ∷ l) rest.1))

  module _ (ks : List K) (s : IsStrictlySortedBy cmp ks) (i : ℕ) where
    key_at : i < length ks → list_any (is_at (cmp k)) ks ≡ true → insert_key cmp ks k ≡ ks → remove ks i ≡ remove_key (is_at (cmp k)) ks → IsKeyAt cmp k ks i
    key_at in_range there inserts removes = record { in_range = in_range; there = there; inserts = inserts; removes = removes; ascends = subst (IsStrictlySortedBy cmp) (sym removes) (ascending-remove_key total _ ks s) }

    key_gap : i ≤ length ks → list_any (is_at (cmp k)) ks ≡ false → insert ks i k ≡ insert_key cmp ks k → remove_key (is_at (cmp k)) ks ≡ ks → IsKeyGap cmp k ks i
    key_gap in_range absent inserts removes = record { in_range = in_range; absent = absent; inserts = inserts; removes = removes; ascends = subst (IsStrictlySortedBy cmp) (sym inserts) (ascending-insert_key total k ks s) }

  abbrev KeyPlaced : List K → Result ℕ ℕ → Type 0
  KeyPlaced ks r = MatchResult r (IsKeyAt cmp k ks) (IsKeyGap cmp k ks)

  key_further : (x : K) (xs : List K) → IsStrictlySortedBy cmp (x ∷ xs) → (r : Result ℕ ℕ) → cmp k x ≡ Greater → KeyPlaced xs r → KeyPlaced (x ∷ xs) (one_further r)
  key_further x xs s (Ok i) e h = key_at (x ∷ xs) s (suc i) (omega (arith, h.in_range)) (rw e h.there) (rw e (ap (λ l. x ∷ l) h.inserts)) (rw e (ap (λ l. x ∷ l) h.removes))
  key_further x xs s (Err i) e h = key_gap (x ∷ xs) s (suc i) (omega (arith, h.in_range)) (rw e h.absent) (rw e (ap (λ l. x ∷ l) h.inserts)) (rw e (ap (λ l. x ∷ l) h.removes))

  -- what a key's place says of keys that ascend
  pub key_placed : (ks : List K) → IsStrictlySortedBy cmp ks → MatchResult (place_of (cmp k) ks) (IsKeyAt cmp k ks) (IsKeyGap cmp k ks)
  unfolding IsStrictlySortedBy
  key_placed [] s = key_gap [] s 0 (omega arith) refl refl refl
  key_placed (x ∷ xs) s = by (key_placed xs s.1) ((parted_keys total k (x ∷ xs) s).0) (cmp k x) refl
    where
      by : KeyPlaced xs (place_of (cmp k) xs) → (is_gt (cmp k x) ≡ false → AllByRecursion (λ y. cmp k y ≡ Less) xs) → (o : Ordering) → cmp k x ≡ o → KeyPlaced (x ∷ xs) (match_ordering (cmp k x) (Err 0) (Ok 0) (one_further (place_of (cmp k) xs)))
      by rest above Less e =
          let none = none_above xs (above (ap is_gt e)) in
          rw e (key_gap (x ∷ xs) s 0 (omega arith) (rw e none.0) (rw e refl) (rw e (ap (λ l. x ∷ l) none.1)))
      by rest above Equal e = rw e (key_at (x ∷ xs) s 0 (omega arith) (rw e refl) (rw e refl) (rw e refl))
      by rest above Greater e = rw e (key_further x xs s (place_of (cmp k) xs) e rest)

module _ {K V : Type 0} {cmp : K → K → Ordering} (total : IsTotalOrder cmp) (k : K) where
  no_entry_above : (es : List (K × V)) → AllByRecursion (λ e. cmp k e.0 ≡ Less) es → (lookup (is_at (cmp k)) es ≡ None) × (remove_entry (is_at (cmp k)) es ≡ es)
  no_entry_above [] a = (refl, refl)
  no_entry_above (e ∷ es) a =
      let rest = no_entry_above es a.1 in
      (rw a.0 rest.0, rw a.0 (ap (λ l. e ∷ l) rest.1))

  module _ (es : List (K × V)) (s : IsStrictlySortedBy cmp (keys_of es)) (i : ℕ) where
    entry_at : i < length es → is_some (lookup (is_at (cmp k)) es) ≡ true → ((d : K × V) → lookup (is_at (cmp k)) es ≡ Some (get_or es i d).1) → ((v : V) (d : K × V) → set es i ((get_or es i d).0, v) ≡ insert_entry cmp es k v) → remove es i ≡ remove_entry (is_at (cmp k)) es → IsEntryAt cmp k es i
    entry_at in_range there value sets removes = record {
      in_range = in_range;
      there = there;
      value = value;
      sets = sets;
      removes = removes;
      ascends_set = λ v d. subst (λ l. IsStrictlySortedBy cmp (keys_of l)) (sym (sets v d)) (ascending-insert_entry total k v es s);
      ascends_removed = subst (λ l. IsStrictlySortedBy cmp (keys_of l)) (sym removes) (ascending-remove_entry total _ es s);
    }

    entry_gap : i ≤ length es → lookup (is_at (cmp k)) es ≡ None → ((v : V) → insert es i (k, v) ≡ insert_entry cmp es k v) → remove_entry (is_at (cmp k)) es ≡ es → IsEntryGap cmp k es i
    entry_gap in_range absent inserts removes = record {
      in_range = in_range;
      absent = absent;
      inserts = inserts;
      removes = removes;
      ascends = λ v. subst (λ l. IsStrictlySortedBy cmp (keys_of l)) (sym (inserts v)) (ascending-insert_entry total k v es s);
    }

  abbrev EntryPlaced : List (K × V) → Result ℕ ℕ → Type 0
  EntryPlaced es r = MatchResult r (IsEntryAt cmp k es) (IsEntryGap cmp k es)

  entry_further : (x : K × V) (es : List (K × V)) → IsStrictlySortedBy cmp (keys_of (x ∷ es)) → (r : Result ℕ ℕ) → cmp k x.0 ≡ Greater → EntryPlaced es r → EntryPlaced (x ∷ es) (one_further r)
  entry_further x es s (Ok i) e h = entry_at (x ∷ es) s (suc i) (omega (arith, h.in_range)) (rw e h.there) (λ d. rw e (h.value d)) (λ v d. rw e (ap (λ l. x ∷ l) (h.sets v d))) (rw e (ap (λ l. x ∷ l) h.removes))
  entry_further x es s (Err i) e h = entry_gap (x ∷ es) s (suc i) (omega (arith, h.in_range)) (rw e h.absent) (λ v. rw e (ap (λ l. x ∷ l) (h.inserts v))) (rw e (ap (λ l. x ∷ l) h.removes))

  -- what a key's place says of entries whose keys ascend
  pub entry_placed : (es : List (K × V)) → IsStrictlySortedBy cmp (keys_of es) → MatchResult (place_of (λ e. cmp k e.0) es) (IsEntryAt cmp k es) (IsEntryGap cmp k es)
  unfolding IsStrictlySortedBy
  entry_placed [] s = entry_gap [] s 0 (omega arith) refl (λ v. refl) refl
  entry_placed (x ∷ es) s = by (entry_placed es s.1) ((parted_entries total k (x ∷ es) s).0) (cmp k x.0) refl
    where
      by : EntryPlaced es (place_of (λ e. cmp k e.0) es) → (is_gt (cmp k x.0) ≡ false → AllByRecursion (λ e. cmp k e.0 ≡ Less) es) → (o : Ordering) → cmp k x.0 ≡ o → EntryPlaced (x ∷ es) (match_ordering (cmp k x.0) (Err 0) (Ok 0) (one_further (place_of (λ e. cmp k e.0) es)))
      by rest above Less e =
          let none = no_entry_above es (above (ap is_gt e)) in
          rw e (entry_gap (x ∷ es) s 0 (omega arith) (rw e none.0) (λ v. rw e refl) (rw e (ap (λ l. x ∷ l) none.1)))
      by rest above Equal e = rw e (entry_at (x ∷ es) s 0 (omega arith) (rw e refl) (λ d. rw e refl) (λ v d. rw e refl) (rw e refl))
      by rest above Greater e = rw e (entry_further x es s (place_of (λ e. cmp k e.0) es) e rest)

-- a binary search among keys that ascend gives the key's place
pub key_searched : {K : Type 0} {cmp : K → K → Ordering} → IsTotalOrder cmp → (k : K) (ks : List K) → IsStrictlySortedBy cmp ks → (r : Result ℕ ℕ) → IsSearchInRange r (length ks) → IsBinarySearchResult (λ y. cmp y k) ks r → MatchResult r (IsKeyAt cmp k ks) (IsKeyGap cmp k ks)
key_searched {cmp = cmp} total k ks s r in_range h =
    let place = searched (cmp k) (λ y. cmp y k) (λ y. total.antisymm y k) ks r (parted_keys total k ks s) in_range h in
    subst (λ p. MatchResult p (IsKeyAt cmp k ks) (IsKeyGap cmp k ks)) (sym place) (key_placed total k ks s)

-- the same of entries
pub entry_searched : {K V : Type 0} {cmp : K → K → Ordering} → IsTotalOrder cmp → (k : K) (es : List (K × V)) → IsStrictlySortedBy cmp (keys_of es) → (r : Result ℕ ℕ) → IsSearchInRange r (length es) → IsBinarySearchResult (λ e. cmp e.0 k) es r → MatchResult r (IsEntryAt cmp k es) (IsEntryGap cmp k es)
entry_searched {cmp = cmp} total k es s r in_range h =
    let place = searched (λ e. cmp k e.0) (λ e. cmp e.0 k) (λ e. total.antisymm e.0 k) es r (parted_entries total k es s) in_range h in
    subst (λ p. MatchResult p (IsEntryAt cmp k es) (IsEntryGap cmp k es)) (sym place) (entry_placed total k es s)
