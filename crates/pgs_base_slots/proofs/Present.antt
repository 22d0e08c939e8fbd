-- How slots by key and the rows in them relate.
use Rattle.std.proofs.Common.{◌≡◌, ◌+◌, ◌≤◌, Bool, true, false, cond, List, [], ◌∷◌, ◌++◌, length, Option, Some, None, is_some, refl, sym, ap, subst, ◌∙◌, true≢false, arith, append_assoc, Ordering, Less, Equal, Greater, is_eq}
use Rattle.std.specs.Ordering.{match_ordering, ordering_reverse}
use Rattle.std.specs.Option.{option_flatten}
use Rattle.std.specs.Cmp.{IsTotalOrder, Equal-is}
use Rattle.std.specs.List.{AllByRecursion, filter, list_any}
use Rattle.std.specs.List.Sorted.{IsStrictlySortedBy}
use Rattle.std.specs.Map.{keys_of, lookup, remove_entry}
use Rattle.std.specs.BTreeMap.{is_at, insert_entry}
use Rattle.std.proofs.lemmas.Map.Lookups.{CmpEqualImpliesEq}
use Rattle.std.proofs.lemmas.Map.Made.{is_some-lookup}
use Rattle.pgs_base.proofs.Lookups.{lookup-insert_entry, lookup-insert_entry_same, remove_entry_absent}
use Rattle.pgs_base_slots.specs.Slots.{left_at, present, row_count}

pub one_row : {V : Type 0} (o : Option V) → row_count o ≤ 1
one_row None = omega arith
one_row (Some v) = omega arith

none_from : {X : Type 0} (o : Option X) → is_some o ≡ false → o ≡ None
none_from None none = refl
none_from (Some x) none = absurd (true≢false none)

module _ {K V : Type 0} where
  counted : (k : K) (o : Option V) (l : List (K × V)) → length (left_at k o ++ l) ≡ row_count o + length l
  counted k None l = omega arith
  counted k (Some v) l = omega arith

  -- the slots with a row have the rows
  pub present-filter : (es : List (K × Option V)) → present (filter (λ (e : K × Option V). is_some e.1) es) ≡ present es
  present-filter [] = refl
  present-filter (e ∷ es) = by (present-filter es) e.0 e.1
    where
      by : present (filter (λ (e : K × Option V). is_some e.1) es) ≡ present es → (k : K) (o : Option V) →
          present (cond (is_some o) ((k, o) ∷ filter (λ (e : K × Option V). is_some e.1) es) (filter (λ (e : K × Option V). is_some e.1) es)) ≡ left_at k o ++ present es
      by rest k None = rest
      by rest k (Some v) = ap (λ l. (k, v) ∷ l) rest

  -- so many slots have a row
  pub count-filter : (es : List (K × Option V)) → length (filter (λ (e : K × Option V). is_some e.1) es) ≡ length (present es)
  count-filter [] = refl
  count-filter (e ∷ es) = by (count-filter es) e.0 e.1
    where
      by : length (filter (λ (e : K × Option V). is_some e.1) es) ≡ length (present es) → (k : K) (o : Option V) →
          length (cond (is_some o) ((k, o) ∷ filter (λ (e : K × Option V). is_some e.1) es) (filter (λ (e : K × Option V). is_some e.1) es)) ≡ length (left_at k o ++ present es)
      by rest k None = rest
      by rest k (Some v) = omega (arith, rest)

  -- the keys of the rows of the first slots, and of one more
  pub keys-next : (e : K × Option V) (es : List (K × Option V)) → keys_of (left_at e.0 e.1) ++ keys_of (present es) ≡ keys_of (present (e ∷ es))
  keys-next e es = by e.1
    where
      by : (o : Option V) → keys_of (left_at e.0 o) ++ keys_of (present es) ≡ keys_of (left_at e.0 o ++ present es)
      by None = refl
      by (Some v) = refl

  -- a slot put in is at most one more
  pub count-made : (cmp : K → K → Ordering) (k : K) (w : Option V) (es : List (K × Option V)) → length (insert_entry cmp es k w) ≤ length es + 1
  count-made cmp k w [] = omega arith
  count-made cmp k w (e ∷ es) = by (count-made cmp k w es) (cmp k e.0)
    where
      by : length (insert_entry cmp es k w) ≤ length es + 1 → (o : Ordering) →
          length (match_ordering o ((k, w) ∷ e ∷ es) ((e.0, w) ∷ es) (e ∷ insert_entry cmp es k w)) ≤ length (e ∷ es) + 1
      by rest Less = omega arith
      by rest Equal = omega arith
      by rest Greater = omega (arith, rest)

  -- no more rows than slots
  pub count-present : (es : List (K × Option V)) → length (present es) ≤ length es
  count-present [] = omega arith
  count-present (e ∷ es) =
      let rest = count-present es in
      let one = counted e.0 e.1 (present es) in
      let most = one_row e.1 in
      omega arith

  all-present : (P : K → Type 0) (es : List (K × Option V)) → AllByRecursion P (keys_of es) → AllByRecursion P (keys_of (present es))
  all-present P [] all = tt
  all-present P (e ∷ es) all = by (all-present P es all.1) e.1
    where
      by : AllByRecursion P (keys_of (present es)) → (o : Option V) → AllByRecursion P (keys_of (left_at e.0 o ++ present es))
      by rest None = rest
      by rest (Some v) = (all.0, rest)

  -- the keys of the rows ascend
  pub ascending-present : (cmp : K → K → Ordering) (es : List (K × Option V)) → IsStrictlySortedBy cmp (keys_of es) → IsStrictlySortedBy cmp (keys_of (present es))
  unfolding IsStrictlySortedBy
  ascending-present cmp [] sorted = tt
  ascending-present cmp (e ∷ es) sorted = by (ascending-present cmp es sorted.1) e.1
    where
      by : IsStrictlySortedBy cmp (keys_of (present es)) → (o : Option V) → IsStrictlySortedBy cmp (keys_of (left_at e.0 o ++ present es))
      by rest None = rest
      by rest (Some v) = (all-present (λ y. cmp e.0 y ≡ Less) es sorted.0, rest)

module _ {K : Type 0} {cmp : K → K → Ordering} (total : IsTotalOrder cmp) where
  -- keys above a key are above what is less than it or ties with it
  above_less : (k x : K) (keys : List K) → cmp k x ≡ Less → AllByRecursion (λ y. cmp x y ≡ Less) keys → AllByRecursion (λ y. cmp k y ≡ Less) keys
  above_less k x [] less above = tt
  above_less k x (y ∷ keys) less above = (total.trans k x y less above.0, above_less k x keys less above.1)

  above_tied : (k x : K) (keys : List K) → cmp k x ≡ Equal → AllByRecursion (λ y. cmp x y ≡ Less) keys → AllByRecursion (λ y. cmp k y ≡ Less) keys
  above_tied k x [] tie above = tt
  above_tied k x (y ∷ keys) tie above = (total.congr k x y tie ∙ above.0, above_tied k x keys tie above.1)

  removed-above : {V : Type 0} (k : K) (es : List (K × V)) → AllByRecursion (λ y. cmp k y ≡ Less) (keys_of es) → remove_entry (is_at (cmp k)) es ≡ es
  removed-above k [] above = refl
  removed-above k (e ∷ es) above = rw above.0 (ap (λ l. e ∷ l) (removed-above k es above.1))

  inserted-above : {V : Type 0} (k : K) (v : V) (es : List (K × V)) → AllByRecursion (λ y. cmp k y ≡ Less) (keys_of es) → insert_entry cmp es k v ≡ (k, v) ∷ es
  inserted-above k v [] above = refl
  inserted-above k v (e ∷ es) above = rw above.0 refl

  absent-above : {V : Type 0} (k : K) (es : List (K × V)) → AllByRecursion (λ y. cmp k y ≡ Less) (keys_of es) → lookup (is_at (cmp k)) es ≡ None
  absent-above k [] above = refl
  absent-above k (e ∷ es) above = rw above.0 (absent-above k es above.1)

  module _ {V : Type 0} (k : K) where
    Above : List (K × V) → Type 0
    Above rows = AllByRecursion (λ y. cmp k y ≡ Less) (keys_of rows)

    module _ (e : K × Option V) (es : List (K × Option V)) (above : AllByRecursion (λ y. cmp e.0 y ≡ Less) (keys_of es)) where
      -- the rows of slots from one that is above a key on, and those of the slots after one that ties with it
      all_less : cmp k e.0 ≡ Less → AllByRecursion (λ y. cmp k y ≡ Less) (keys_of (left_at e.0 e.1 ++ present es))
      all_less less = all-present (λ y. cmp k y ≡ Less) (e ∷ es) (less, above_less k e.0 (keys_of es) less above)

      rest_tied : cmp k e.0 ≡ Equal → AllByRecursion (λ y. cmp k y ≡ Less) (keys_of (present es))
      rest_tied tie = all-present (λ y. cmp k y ≡ Less) es (above_tied k e.0 (keys_of es) tie above)

      absent_less : cmp k e.0 ≡ Less → lookup (is_at (cmp k)) es ≡ None
      absent_less less = absent-above k es (above_less k e.0 (keys_of es) less above)

    -- what a look-up among the rows finds
    pub lookup-present : (es : List (K × Option V)) → IsStrictlySortedBy cmp (keys_of es) → lookup (is_at (cmp k)) (present es) ≡ option_flatten (lookup (is_at (cmp k)) es)
    unfolding IsStrictlySortedBy
    lookup-present [] sorted = refl
    lookup-present (e ∷ es) sorted = by (lookup-present es sorted.1) e.1 (is_at (cmp k) e.0) refl
      where
        by : lookup (is_at (cmp k)) (present es) ≡ option_flatten (lookup (is_at (cmp k)) es) → (o : Option V) (b : Bool) → is_at (cmp k) e.0 ≡ b →
            lookup (is_at (cmp k)) (left_at e.0 o ++ present es) ≡ option_flatten (cond b (Some o) (lookup (is_at (cmp k)) es))
        by rest None true is = absent-above k (present es) (rest_tied e es sorted.0 ((Equal-is (cmp k e.0)).0 is))
        by rest None false is = rest
        by rest (Some v) true is = rw is refl
        by rest (Some v) false is = rw is rest

    -- a slot without a row, made or emptied
    pub present-emptied : (es : List (K × Option V)) → IsStrictlySortedBy cmp (keys_of es) → present (insert_entry cmp es k None) ≡ remove_entry (is_at (cmp k)) (present es)
    unfolding IsStrictlySortedBy
    present-emptied [] sorted = refl
    present-emptied (e ∷ es) sorted = by (present-emptied es sorted.1) (cmp k e.0) refl
      where
        tied : cmp k e.0 ≡ Equal → (o : Option V) → present es ≡ remove_entry (is_at (cmp k)) (left_at e.0 o ++ present es)
        tied is None = sym (removed-above k (present es) (rest_tied e es sorted.0 is))
        tied is (Some v) = rw is refl

        later : cmp k e.0 ≡ Greater → present (insert_entry cmp es k None) ≡ remove_entry (is_at (cmp k)) (present es) → (o : Option V) →
            left_at e.0 o ++ present (insert_entry cmp es k None) ≡ remove_entry (is_at (cmp k)) (left_at e.0 o ++ present es)
        later is rest None = rest
        later is rest (Some v) = rw is (ap (λ l. (e.0, v) ∷ l) rest)

        by : present (insert_entry cmp es k None) ≡ remove_entry (is_at (cmp k)) (present es) → (o : Ordering) → cmp k e.0 ≡ o →
            present (match_ordering o ((k, None) ∷ e ∷ es) ((e.0, None) ∷ es) (e ∷ insert_entry cmp es k None)) ≡ remove_entry (is_at (cmp k)) (left_at e.0 e.1 ++ present es)
        by rest Less is = sym (removed-above k (left_at e.0 e.1 ++ present es) (all_less e es sorted.0 is))
        by rest Equal is = tied is e.1
        by rest Greater is = later is rest e.1

    -- a row put into a slot
    pub present-put : CmpEqualImpliesEq cmp → (v : V) (es : List (K × Option V)) → IsStrictlySortedBy cmp (keys_of es) →
        present (insert_entry cmp es k (Some v)) ≡ insert_entry cmp (present es) k v
    unfolding IsStrictlySortedBy
    present-put exact v [] sorted = refl
    present-put exact v (e ∷ es) sorted = by (present-put exact v es sorted.1) (cmp k e.0) refl
      where
        tied : cmp k e.0 ≡ Equal → (o : Option V) → (e.0, v) ∷ present es ≡ insert_entry cmp (left_at e.0 o ++ present es) k v
        tied is None = ap (λ x. (x, v) ∷ present es) (sym (exact k e.0 is)) ∙ sym (inserted-above k v (present es) (rest_tied e es sorted.0 is))
        tied is (Some w) = rw is refl

        later : cmp k e.0 ≡ Greater → present (insert_entry cmp es k (Some v)) ≡ insert_entry cmp (present es) k v → (o : Option V) →
            left_at e.0 o ++ present (insert_entry cmp es k (Some v)) ≡ insert_entry cmp (left_at e.0 o ++ present es) k v
        later is rest None = rest
        later is rest (Some w) = rw is (ap (λ l. (e.0, w) ∷ l) rest)

        by : present (insert_entry cmp es k (Some v)) ≡ insert_entry cmp (present es) k v → (o : Ordering) → cmp k e.0 ≡ o →
            present (match_ordering o ((k, Some v) ∷ e ∷ es) ((e.0, Some v) ∷ es) (e ∷ insert_entry cmp es k (Some v))) ≡ insert_entry cmp (left_at e.0 e.1 ++ present es) k v
        by rest Less is = sym (inserted-above k v (left_at e.0 e.1 ++ present es) (all_less e es sorted.0 is))
        by rest Equal is = tied is e.1
        by rest Greater is = later is rest e.1

    -- how many rows there are after a row, or none, is put into a slot
    pub count-filled : (w : Option V) (es : List (K × Option V)) → IsStrictlySortedBy cmp (keys_of es) →
        length (present (insert_entry cmp es k w)) + row_count (option_flatten (lookup (is_at (cmp k)) es)) ≡ length (present es) + row_count w
    unfolding IsStrictlySortedBy
    count-filled w [] sorted = let one = counted k w [] in omega arith
    count-filled w (e ∷ es) sorted = by (count-filled w es sorted.1) (cmp k e.0) refl
      where
        by : length (present (insert_entry cmp es k w)) + row_count (option_flatten (lookup (is_at (cmp k)) es)) ≡ length (present es) + row_count w → (o : Ordering) → cmp k e.0 ≡ o →
            length (present (match_ordering o ((k, w) ∷ e ∷ es) ((e.0, w) ∷ es) (e ∷ insert_entry cmp es k w))) + row_count (option_flatten (cond (is_eq o) (Some e.1) (lookup (is_at (cmp k)) es)))
            ≡ length (left_at e.0 e.1 ++ present es) + row_count w
        by rest Less is =
            let one = counted k w (left_at e.0 e.1 ++ present es) in
            let none : row_count (option_flatten (lookup (is_at (cmp k)) es)) ≡ 0 = ap (λ o. row_count (option_flatten o)) (absent_less e es sorted.0 is) in
            omega arith
        by rest Equal is =
            let one = counted e.0 w (present es) in
            let other = counted e.0 e.1 (present es) in
            omega arith
        by rest Greater is =
            let one = counted e.0 e.1 (present (insert_entry cmp es k w)) in
            let other = counted e.0 e.1 (present es) in
            omega arith

    -- ---- an empty slot is made

    pub present-made : (es : List (K × Option V)) → IsStrictlySortedBy cmp (keys_of es) → is_some (lookup (is_at (cmp k)) es) ≡ false → present (insert_entry cmp es k None) ≡ present es
    present-made es sorted absent =
        present-emptied es sorted
        ∙ remove_entry_absent total k (present es) (ascending-present cmp es sorted) (lookup-present es sorted ∙ ap option_flatten (none_from (lookup (is_at (cmp k)) es) absent))

    pub there-made : (w : Option V) (es : List (K × Option V)) → list_any (is_at (cmp k)) (keys_of (insert_entry cmp es k w)) ≡ true
    there-made w es = sym (is_some-lookup (is_at (cmp k)) (insert_entry cmp es k w)) ∙ ap is_some (lookup-insert_entry_same total k w es)

    pub kept-made : (w : Option V) (es : List (K × Option V)) (q : K) → list_any (is_at (cmp q)) (keys_of es) ≡ true → list_any (is_at (cmp q)) (keys_of (insert_entry cmp es k w)) ≡ true
    kept-made w es q there =
        sym (is_some-lookup (is_at (cmp q)) (insert_entry cmp es k w)) ∙ ap is_some (lookup-insert_entry total q k w es)
        ∙ either (is_at (cmp k) q) (lookup (is_at (cmp q)) es) (is_some-lookup (is_at (cmp q)) es ∙ there)
      where
        either : (b : Bool) (o : Option (Option V)) → is_some o ≡ true → is_some (cond b (Some w) o) ≡ true
        either true o there = refl
        either false o there = there

  -- ---- entries that ascend, put in one after another

  module _ {V : Type 0} where
    greater : (x : K) (xs : List (K × V)) (e : K × V) (rest : List (K × V)) → AllByRecursion (λ y. cmp x y ≡ Less) (keys_of (xs ++ e ∷ rest)) → cmp e.0 x ≡ Greater
    greater x [] e rest above = total.antisymm e.0 x ∙ ap ordering_reverse above.0
    greater x (y ∷ xs) e rest above = greater x xs e rest above.1

    insert-next : (xs : List (K × V)) (e : K × V) (rest : List (K × V)) → IsStrictlySortedBy cmp (keys_of (xs ++ e ∷ rest)) → insert_entry cmp xs e.0 e.1 ≡ xs ++ e ∷ []
    unfolding IsStrictlySortedBy
    insert-next [] e rest sorted = refl
    insert-next (x ∷ xs) e rest sorted = rw (greater x.0 xs e rest sorted.0) (ap (λ l. x ∷ l) (insert-next xs e rest sorted.1))

    pub copied-next : (xs : List (K × V)) (e : K × V) (rest es : List (K × V)) → IsStrictlySortedBy cmp (keys_of es) → xs ++ e ∷ rest ≡ es → insert_entry cmp xs e.0 e.1 ++ rest ≡ es
    copied-next xs e rest es sorted is =
        ap (λ l. l ++ rest) (insert-next xs e rest (subst (λ l. IsStrictlySortedBy cmp (keys_of l)) (sym is) sorted)) ∙ append_assoc xs (e ∷ []) rest ∙ is
