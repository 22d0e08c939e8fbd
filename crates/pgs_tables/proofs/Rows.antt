-- How the slots of a table and its rows by number relate.
use Rattle.std.proofs.Common.{◌≡◌, ℕ, ◌+◌, ◌<◌, ◌≤◌, suc, add-one, get_or, drop, drop-cons, Bool, true, false, cond, ◌||◌, List, [], ◌∷◌, ◌++◌, length, Option, Some, None, IsSome, is_some, refl, sym, ap, subst, ◌∙◌, true≢false, arith, Ordering, is_eq}
use Rattle.std.specs.Ordering.{eq_by_cmp}
use Rattle.std.specs.Option.{option_flatten}
use Rattle.std.specs.Cmp.{IsTotalOrder, IsEquivalence, eq_by_cmp_equiv}
use Rattle.std.specs.List.{AllByRecursion, list_any, filter, IsDistinct}
use Rattle.std.specs.List.Sorted.{IsStrictlySortedBy, IsPermutation, IsSorted}
use Rattle.std.specs.Map.{keys_of, lookup, set_value, remove_entry}
use Rattle.std.specs.BTreeMap.{is_at, insert_entry}
use Rattle.std.proofs.lemmas.Map.{lookup-set_value, keys-set_value}
use Rattle.std.proofs.lemmas.Map.Keys.{IsDistinct-head, IsDistinct-tail, IsDistinct-cons}
use Rattle.std.proofs.lemmas.Map.Lookups.{CmpEqualImpliesEq}
use Rattle.std.proofs.lemmas.Map.Made.{is_some-lookup}
use Rattle.pgs_base.proofs.Ascending.{ascending-insert_entry, ascending_none}
use Rattle.pgs_base.proofs.Lookups.{lookup-insert_entry, lookup-remove_key, same_entries, length-insert_entry, remove_entry_absent}
use Rattle.pgs_graph.specs.Changed.{entry_changed}
use Rattle.pgs_base_slots.specs.Slots.{left_at}
use Rattle.pgs_graph.proofs.Deltas.{ascending-entry_changed}
use Rattle.pgs_tables.proofs.Keys.{sorted_keys}
use Rattle.pgs_tables.specs.Slots.{by_key, present, row_count}

-- a key that is equal to one that is apart from all others isn't among those
absent_apart : {K W : Type 0} {eq : K → K → Bool} → IsEquivalence eq → (q k : K) (es : List (K × W)) → eq q k ≡ true → AllByRecursion (λ y. eq k y ≡ false) (keys_of es) →
    lookup (eq q) es ≡ None
absent_apart laws q k [] same apart = refl
absent_apart {W = W} {eq = eq} laws q k (e ∷ es) same apart =
    let other : eq q e.0 ≡ false = laws.congr q k e.0 same ∙ apart.0 in
    rw other (absent_apart {W = W} laws q k es same apart.1)

pub set_value_absent : {K W : Type 0} (test : K → Bool) (es : List (K × W)) (w : W) → lookup test es ≡ None → set_value test es w ≡ es
set_value_absent test [] w none = refl
set_value_absent {W = W} test (e ∷ es) w none = by (λ h. set_value_absent {W = W} test es w h) (test e.0) none
  where
    by : (lookup test es ≡ None → set_value test es w ≡ es) → (b : Bool) → cond b (Some e.1) (lookup test es) ≡ None → cond b ((e.0, w) ∷ es) (e ∷ set_value test es w) ≡ e ∷ es
    by rest true h = absurd (true≢false (ap is_some h))
    by rest false h = ap (λ l. e ∷ l) (rest h)

pub any-push : {K : Type 0} (test : K → Bool) (ks : List K) (k : K) → list_any test (ks ++ k ∷ []) ≡ (list_any test ks || test k)
any-push test [] k = or-false (test k)
  where
    or-false : (b : Bool) → (b || false) ≡ b
    or-false true = refl
    or-false false = refl
any-push test (x ∷ xs) k = by (test x) (any-push test xs k)
  where
    by : (b : Bool) → list_any test (xs ++ k ∷ []) ≡ (list_any test xs || test k) → (b || list_any test (xs ++ k ∷ [])) ≡ ((b || list_any test xs) || test k)
    by true rest = refl
    by false rest = rest

-- ---- of entries in any order

module _ {K V : Type 0} where
  counted : (k : K) (o : Option V) (l : List (K × V)) → length (left_at k o ++ l) ≡ row_count o + length l
  counted k None l = omega arith
  counted k (Some v) l = omega arith

  -- a row for another in a slot, and how many there are
  pub count-set_value : (test : K → Bool) (es : List (K × Option V)) (old new : Option V) → lookup test es ≡ Some old →
      length (present (set_value test es new)) + row_count old ≡ length (present es) + row_count new
  count-set_value test [] old new there = absurd (true≢false (sym (ap is_some there)))
  count-set_value test (e ∷ es) old new there = by (λ h. count-set_value test es old new h) (test e.0) there
    where
      by : (lookup test es ≡ Some old → length (present (set_value test es new)) + row_count old ≡ length (present es) + row_count new) → (b : Bool) →
          cond b (Some e.1) (lookup test es) ≡ Some old →
          length (present (cond b ((e.0, new) ∷ es) (e ∷ set_value test es new))) + row_count old ≡ length (left_at e.0 e.1 ++ present es) + row_count new
      by rest true h =
          let one = counted e.0 new (present es) in
          let other = counted e.0 e.1 (present es) in
          let same : row_count e.1 ≡ row_count old = ap (λ o. row_count (option_flatten o)) h in
          omega arith
      by rest false h =
          let later = rest h in
          let one = counted e.0 e.1 (present (set_value test es new)) in
          let other = counted e.0 e.1 (present es) in
          omega arith

  -- a row put into a slot
  pub count-put : (test : K → Bool) (es : List (K × Option V)) (v : V) → IsSome (lookup test es) →
      length (present (set_value test es (Some v))) + row_count (option_flatten (lookup test es)) ≡ length (present es) + 1
  count-put test es v there = by (lookup test es) refl
    where
      by : (o : Option (Option V)) → lookup test es ≡ o → length (present (set_value test es (Some v))) + row_count (option_flatten o) ≡ length (present es) + 1
      by None none = absurd (true≢false (sym there ∙ ap is_some none))
      by (Some old) has = count-set_value test es old (Some v) has

  -- the slots with a row have the rows
  pub present-filter : (es : List (K × Option V)) → present (filter (λ (e : K × Option V). is_some e.1) es) ≡ present es
  present-filter [] = refl
  present-filter (e ∷ es) = by (present-filter es) e.0 e.1
    where
      by : present (filter (λ (e : K × Option V). is_some e.1) es) ≡ present es → (k : K) (o : Option V) →
          present (cond (is_some o) ((k, o) ∷ filter (λ (e : K × Option V). is_some e.1) es) (filter (λ (e : K × Option V). is_some e.1) es)) ≡ left_at k o ++ present es
      by rest k None = rest
      by rest k (Some v) = ap (λ l. (k, v) ∷ l) rest

  -- a row taken out of a slot, if it is there
  pub count-taken : (test : K → Bool) (es : List (K × Option V)) → length (present (set_value test es None)) + row_count (option_flatten (lookup test es)) ≡ length (present es)
  count-taken test es = by (lookup test es) refl
    where
      by : (o : Option (Option V)) → lookup test es ≡ o → length (present (set_value test es None)) + row_count (option_flatten o) ≡ length (present es)
      by None none = let same = ap (λ l. length (present l)) (set_value_absent {W = Option V} test es None none) in omega arith
      by (Some old) there = let e = count-set_value test es old None there in omega arith

  pub length-some : (k : K) (o : Option V) (l : List (K × V)) → is_some o ≡ true → length (keys_of (left_at k o ++ l)) ≡ length (keys_of l) + 1
  length-some k None l there = absurd (true≢false (sym there))
  length-some k (Some v) l there = omega arith

  -- so many slots have a row
  pub count-filter : (es : List (K × Option V)) → length (filter (λ (e : K × Option V). is_some e.1) es) ≡ length (present es)
  count-filter [] = refl
  count-filter (e ∷ es) = by (count-filter es) e.0 e.1
    where
      by : length (filter (λ (e : K × Option V). is_some e.1) es) ≡ length (present es) → (k : K) (o : Option V) →
          length (cond (is_some o) ((k, o) ∷ filter (λ (e : K × Option V). is_some e.1) es) (filter (λ (e : K × Option V). is_some e.1) es)) ≡ length (left_at k o ++ present es)
      by rest k None = rest
      by rest k (Some v) = omega (arith, rest)

  -- the keys of the slots with a row, where a test tells which those are
  keys-filter : (p : K → Bool) (es : List (K × Option V)) → AllByRecursion (λ (e : K × Option V). is_some e.1 ≡ p e.0) es →
      keys_of (filter (λ (e : K × Option V). is_some e.1) es) ≡ filter p (keys_of es)
  keys-filter p [] all = refl
  keys-filter p (e ∷ es) all = rw (← all.0) (by (keys-filter p es all.1) (is_some e.1))
    where
      by : keys_of (filter (λ (e : K × Option V). is_some e.1) es) ≡ filter p (keys_of es) → (b : Bool) →
          keys_of (cond b (e ∷ filter (λ (e : K × Option V). is_some e.1) es) (filter (λ (e : K × Option V). is_some e.1) es)) ≡ cond b (e.0 ∷ filter p (keys_of es)) (filter p (keys_of es))
      by rest true = ap (λ l. e.0 ∷ l) rest
      by rest false = rest

  pub length-keys : (l : List (K × V)) → length (keys_of l) ≡ length l
  length-keys [] = refl
  length-keys (e ∷ l) = let rest = length-keys l in omega arith

  -- no more rows than slots
  pub count-present : (es : List (K × Option V)) → length (present es) ≤ length es
  count-present [] = omega arith
  count-present (e ∷ es) =
      let rest = count-present es in
      let one = counted e.0 e.1 (present es) in
      let most = at_most e.1 in
      omega arith
    where
      at_most : (o : Option V) → row_count o ≤ 1
      at_most None = omega arith
      at_most (Some v) = omega arith

  -- an empty slot more is no row more
  pub present-push : (es : List (K × Option V)) (k : K) → present (es ++ (k, None) ∷ []) ≡ present es
  present-push [] k = refl
  present-push (e ∷ es) k = ap (λ l. left_at e.0 e.1 ++ l) (present-push es k)

  pub keys-push : (es : List (K × Option V)) (k : K) (w : Option V) → keys_of (es ++ (k, w) ∷ []) ≡ keys_of es ++ k ∷ []
  keys-push [] k w = refl
  keys-push (e ∷ es) k w = ap (λ l. e.0 ∷ l) (keys-push es k w)

  none_present : (P : K → Type 0) (es : List (K × Option V)) → AllByRecursion P (keys_of es) → AllByRecursion P (keys_of (present es))
  none_present P [] all = tt
  none_present P (e ∷ es) all = by (none_present P es all.1) e.1
    where
      by : AllByRecursion P (keys_of (present es)) → (o : Option V) → AllByRecursion P (keys_of (left_at e.0 o ++ present es))
      by rest None = rest
      by rest (Some v) = (all.0, rest)

  pub distinct-present : (eq : K → K → Bool) (es : List (K × Option V)) → IsDistinct eq (keys_of es) → IsDistinct eq (keys_of (present es))
  distinct-present eq [] distinct = distinct
  distinct-present eq (e ∷ es) distinct = by (distinct-present eq es (IsDistinct-tail eq e.0 (keys_of es) distinct)) e.1
    where
      by : IsDistinct eq (keys_of (present es)) → (o : Option V) → IsDistinct eq (keys_of (left_at e.0 o ++ present es))
      by rest None = rest
      by rest (Some v) = IsDistinct-cons eq e.0 (keys_of (present es)) (none_present (λ y. eq e.0 y ≡ false) es (IsDistinct-head eq e.0 (keys_of es) distinct)) rest

  -- of entries with distinct keys, each is the one at its key
  own_tail : {eq : K → K → Bool} → IsEquivalence eq → (x : K × Option V) (l es : List (K × Option V)) → AllByRecursion (λ y. eq x.0 y ≡ false) (keys_of l) →
      AllByRecursion (λ (e : K × Option V). lookup (eq e.0) es ≡ Some e.1) l → AllByRecursion (λ (e : K × Option V). lookup (eq e.0) (x ∷ es) ≡ Some e.1) l
  own_tail laws x [] es apart all = tt
  own_tail {eq} laws x (e ∷ l) es apart all =
      let other : eq e.0 x.0 ≡ false = laws.symm e.0 x.0 ∙ apart.0 in
      (rw other all.0, own_tail laws x l es apart.1 all.1)

  each_own : {eq : K → K → Bool} → IsEquivalence eq → (es : List (K × Option V)) → IsDistinct eq (keys_of es) → AllByRecursion (λ (e : K × Option V). lookup (eq e.0) es ≡ Some e.1) es
  each_own laws [] distinct = tt
  each_own {eq} laws (e ∷ es) distinct =
      (rw (laws.refl e.0) refl, own_tail laws e es es (IsDistinct-head eq e.0 (keys_of es) distinct) (each_own laws es (IsDistinct-tail eq e.0 (keys_of es) distinct)))

  pub lookup-present : {eq : K → K → Bool} → IsEquivalence eq → (q : K) (es : List (K × Option V)) → IsDistinct eq (keys_of es) →
      lookup (eq q) (present es) ≡ option_flatten (lookup (eq q) es)
  lookup-present laws q [] distinct = refl
  lookup-present {eq} laws q (e ∷ es) distinct = by (lookup-present laws q es (IsDistinct-tail eq e.0 (keys_of es) distinct)) e.1 (eq q e.0) refl
    where
      by : lookup (eq q) (present es) ≡ option_flatten (lookup (eq q) es) → (o : Option V) (b : Bool) → eq q e.0 ≡ b → lookup (eq q) (left_at e.0 o ++ present es) ≡ option_flatten (cond b (Some o) (lookup (eq q) es))
      by rest None true is = rest ∙ ap option_flatten (absent_apart laws q e.0 es is (IsDistinct-head eq e.0 (keys_of es) distinct))
      by rest None false is = rest
      by rest (Some v) true is = rw is refl
      by rest (Some v) false is = rw is rest

-- ---- by number

turned : {K : Type 0} {cmp : K → K → Ordering} → IsTotalOrder cmp → (k q : K) → is_at (cmp k) q ≡ is_at (cmp q) k
turned total k q = (eq_by_cmp_equiv total).symm k q

module _ {K V : Type 0} {cmp : K → K → Ordering} (total : IsTotalOrder cmp) where
  pub ascending-by_key : (es : List (K × V)) → IsStrictlySortedBy cmp (keys_of (by_key cmp es))
  ascending-by_key [] = ascending_none cmp [] refl
  ascending-by_key (e ∷ es) = ascending-insert_entry total e.0 e.1 (by_key cmp es) (ascending-by_key es)

  pub lookup-by_key : (q : K) (es : List (K × V)) → lookup (is_at (cmp q)) (by_key cmp es) ≡ lookup (is_at (cmp q)) es
  lookup-by_key q [] = refl
  lookup-by_key q (e ∷ es) =
      lookup-insert_entry total q e.0 e.1 (by_key cmp es) ∙ ap (λ b. cond b (Some e.1) (lookup (is_at (cmp q)) (by_key cmp es))) (turned total e.0 q)
      ∙ ap (λ l. cond (is_at (cmp q) e.0) (Some e.1) l) (lookup-by_key q es)

  pub length-by_key : (es : List (K × V)) → IsDistinct (eq_by_cmp cmp) (keys_of es) → length (by_key cmp es) ≡ length es
  length-by_key [] distinct = refl
  length-by_key (e ∷ es) distinct =
      let absent : lookup (is_at (cmp e.0)) (by_key cmp es) ≡ None =
      lookup-by_key e.0 es ∙ absent_apart {W = V} (eq_by_cmp_equiv total) e.0 e.0 es ((eq_by_cmp_equiv total).refl e.0) (IsDistinct-head (eq_by_cmp cmp) e.0 (keys_of es) distinct) in
      let rest = length-by_key es (IsDistinct-tail (eq_by_cmp cmp) e.0 (keys_of es) distinct) in
      let one = length-insert_entry total e.0 (by_key cmp es) (ascending-by_key es) e.1 in
      let more : length (insert_entry cmp (by_key cmp es) e.0 e.1) ≡ length (by_key cmp es) + 1 =
      one ∙ ap (λ o. cond (is_some o) (length (by_key cmp es)) (length (by_key cmp es) + 1)) absent in
      omega arith

  pub lookup-changed : (q k : K) (w : Option V) (es : List (K × V)) → IsStrictlySortedBy cmp (keys_of es) →
      lookup (is_at (cmp q)) (entry_changed cmp es k w) ≡ cond (is_at (cmp k) q) w (lookup (is_at (cmp q)) es)
  lookup-changed q k None es sorted = lookup-remove_key total q k es sorted
  lookup-changed q k (Some v) es sorted = lookup-insert_entry total q k v es

flat_cond : {V : Type 0} (b : Bool) (w : Option V) (o : Option (Option V)) → option_flatten (cond b (Some w) o) ≡ cond b w (option_flatten o)
flat_cond true w o = refl
flat_cond false w o = refl

-- what a look-up among the rows by number finds
found_by : {K V : Type 0} {cmp : K → K → Ordering} → IsTotalOrder cmp → (q : K) (es : List (K × Option V)) → IsDistinct (eq_by_cmp cmp) (keys_of es) →
    lookup (is_at (cmp q)) (by_key cmp (present es)) ≡ option_flatten (lookup (is_at (cmp q)) es)
found_by total q es distinct = lookup-by_key total q (present es) ∙ lookup-present (eq_by_cmp_equiv total) q es distinct

module _ {K V : Type 0} {cmp : K → K → Ordering} (total : IsTotalOrder cmp) (exact : CmpEqualImpliesEq cmp) where
  -- a row put into a slot, or taken out of it, is put in among the rows, or taken out
  set_there : (k : K) (w : Option V) (es : List (K × Option V)) → IsDistinct (eq_by_cmp cmp) (keys_of es) → IsSome (lookup (is_at (cmp k)) es) →
      by_key cmp (present (set_value (is_at (cmp k)) es w)) ≡ entry_changed cmp (by_key cmp (present es)) k w
  set_there k w es distinct there =
      let laws = eq_by_cmp_equiv total in
      let still : IsDistinct (eq_by_cmp cmp) (keys_of (set_value (is_at (cmp k)) es w)) = subst (IsDistinct (eq_by_cmp cmp)) (sym (keys-set_value (is_at (cmp k)) es w)) distinct in
      let sorted = ascending-by_key total (present es) in
      same_entries total exact (by_key cmp (present (set_value (is_at (cmp k)) es w))) (entry_changed cmp (by_key cmp (present es)) k w)
      (ascending-by_key total (present (set_value (is_at (cmp k)) es w))) (ascending-entry_changed total k w (by_key cmp (present es)) sorted)
      (λ q. found_by total q (set_value (is_at (cmp k)) es w) still
      ∙ ap option_flatten (lookup-set_value laws (is_at (cmp k)) (λ x y same. laws.congr k x y same) q w es there)
      ∙ flat_cond (is_at (cmp k) q) w (lookup (is_at (cmp q)) es)
      ∙ ap (cond (is_at (cmp k) q) w) (sym (found_by total q es distinct))
      ∙ sym (lookup-changed total q k w (by_key cmp (present es)) sorted))

  set_absent : (k : K) (es : List (K × Option V)) → IsDistinct (eq_by_cmp cmp) (keys_of es) → lookup (is_at (cmp k)) es ≡ None →
      by_key cmp (present (set_value (is_at (cmp k)) es None)) ≡ remove_entry (is_at (cmp k)) (by_key cmp (present es))
  set_absent k es distinct none =
      ap (λ l. by_key cmp (present l)) (set_value_absent {W = Option V} (is_at (cmp k)) es None none)
      ∙ sym (remove_entry_absent total k (by_key cmp (present es)) (ascending-by_key total (present es)) (found_by total k es distinct ∙ ap option_flatten none))

  taken : (k : K) (es : List (K × Option V)) → IsDistinct (eq_by_cmp cmp) (keys_of es) →
      by_key cmp (present (set_value (is_at (cmp k)) es None)) ≡ remove_entry (is_at (cmp k)) (by_key cmp (present es))
  taken k es distinct = by (lookup (is_at (cmp k)) es) refl
    where
      by : (o : Option (Option V)) → lookup (is_at (cmp k)) es ≡ o → by_key cmp (present (set_value (is_at (cmp k)) es None)) ≡ remove_entry (is_at (cmp k)) (by_key cmp (present es))
      by None none = set_absent k es distinct none
      by (Some old) there = set_there k None es distinct (ap is_some there)

-- ---- the same in the words of a map, whose keys are compared by `eq`

pub eq_is : {K : Type 0} {eq : K → K → Bool} (cmp : K → K → Ordering) → ((x y : K) → eq x y ≡ is_eq (cmp x y)) → eq ≡ eq_by_cmp cmp
eq_is cmp ties = λ i x y. ties x y i

module _ {K V : Type 0} {eq : K → K → Bool} {cmp : K → K → Ordering} (total : IsTotalOrder cmp) (ties : (x y : K) → eq x y ≡ is_eq (cmp x y)) where
  pub row-found : (q : K) (es : List (K × Option V)) → IsDistinct eq (keys_of es) → lookup (is_at (cmp q)) (by_key cmp (present es)) ≡ option_flatten (lookup (eq q) es)
  row-found q es = subst (λ e. IsDistinct e (keys_of es) → lookup (is_at (cmp q)) (by_key cmp (present es)) ≡ option_flatten (lookup (e q) es)) (sym (eq_is cmp ties)) (found_by total q es)

  pub rows-counted : (es : List (K × Option V)) → IsDistinct eq (keys_of es) → length (by_key cmp (present es)) ≡ length (present es)
  rows-counted es distinct = length-by_key total (present es) (distinct-present (eq_by_cmp cmp) es (subst (λ e. IsDistinct e (keys_of es)) (eq_is cmp ties) distinct))

  pub slot-found : (q : K) (es : List (K × Option V)) → list_any (is_at (cmp q)) (keys_of es) ≡ is_some (lookup (eq q) es)
  slot-found q es = subst (λ e. list_any (is_at (cmp q)) (keys_of es) ≡ is_some (lookup (e q) es)) (sym (eq_is cmp ties)) (sym (is_some-lookup (is_at (cmp q)) es))

  -- the numbers with a row
  has_row_there : (es l : List (K × Option V)) → IsDistinct eq (keys_of es) → AllByRecursion (λ (e : K × Option V). lookup (eq e.0) es ≡ Some e.1) l →
      AllByRecursion (λ (e : K × Option V). is_some e.1 ≡ list_any (is_at (cmp e.0)) (keys_of (by_key cmp (present es)))) l
  has_row_there es [] distinct all = tt
  has_row_there es (e ∷ l) distinct all =
      (sym (sym (is_some-lookup (is_at (cmp e.0)) (by_key cmp (present es))) ∙ ap is_some (row-found e.0 es distinct) ∙ ap (λ o. is_some (option_flatten o)) all.0), has_row_there es l distinct all.1)

  pub numbers-filter : (es : List (K × Option V)) → IsDistinct eq (keys_of es) →
      keys_of (filter (λ (e : K × Option V). is_some e.1) es) ≡ filter (λ q. list_any (is_at (cmp q)) (keys_of (by_key cmp (present es)))) (keys_of es)
  numbers-filter es distinct =
      keys-filter (λ q. list_any (is_at (cmp q)) (keys_of (by_key cmp (present es)))) es
      (has_row_there es es distinct (each_own (subst IsEquivalence (sym (eq_is cmp ties)) (eq_by_cmp_equiv total)) es distinct))

  pub ascending-rows : (es : List (K × Option V)) → IsStrictlySortedBy cmp (keys_of (by_key cmp (present es)))
  ascending-rows es = ascending-by_key total (present es)

  module _ (exact : CmpEqualImpliesEq cmp) where
    -- the numbers of the rows, sorted
    pub ids-sorted : (es : List (K × Option V)) (sorted : List K) → IsDistinct eq (keys_of es) → IsPermutation (keys_of (present es)) sorted → IsSorted cmp sorted →
        sorted ≡ keys_of (by_key cmp (present es))
    ids-sorted es sorted distinct moved rises =
        sorted_keys total exact (keys_of (present es)) sorted (keys_of (by_key cmp (present es)))
        (distinct-present (eq_by_cmp cmp) es (subst (λ e. IsDistinct e (keys_of es)) (eq_is cmp ties) distinct)) moved rises (ascending-rows es)
        (λ q. sym (is_some-lookup (is_at (cmp q)) (present es)) ∙ ap is_some (sym (lookup-by_key total q (present es))) ∙ is_some-lookup (is_at (cmp q)) (by_key cmp (present es)))

    pub rows-taken : (k : K) (es : List (K × Option V)) → IsDistinct eq (keys_of es) →
        by_key cmp (present (set_value (eq k) es None)) ≡ remove_entry (is_at (cmp k)) (by_key cmp (present es))
    rows-taken k es =
        subst (λ e. IsDistinct e (keys_of es) → by_key cmp (present (set_value (e k) es None)) ≡ remove_entry (is_at (cmp k)) (by_key cmp (present es))) (sym (eq_is cmp ties)) (taken total exact k es)

    pub rows-put : (k : K) (v : V) (es : List (K × Option V)) → IsDistinct eq (keys_of es) → IsSome (lookup (eq k) es) →
        by_key cmp (present (set_value (eq k) es (Some v))) ≡ insert_entry cmp (by_key cmp (present es)) k v
    rows-put k v es =
        subst (λ e. IsDistinct e (keys_of es) → IsSome (lookup (e k) es) → by_key cmp (present (set_value (e k) es (Some v))) ≡ insert_entry cmp (by_key cmp (present es)) k v) (sym (eq_is cmp ties))
        (set_there total exact k (Some v) es)

-- the first of what is left of a list that a loop goes over
pub first_of_rest : {X : Type 0} (items : List X) (i : ℕ) (x : X) → i < length items → x ≡ get_or items i x → drop i items ≡ x ∷ drop (i + 1) items
first_of_rest items i x within is = rw (add-one, drop-cons items i x) (ap (λ l. l ∷ drop (suc i) items) (sym is))
