-- What is in a queue of types, after each of its steps.
use Rattle.std.proofs.Common.{◌≡◌, ℕ, ◌+◌, ◌<◌, ◌≤◌, Bool, true, false, not, cond, ◌&&◌, List, [], ◌∷◌, ◌++◌, ◌⊎◌, inl, inr, ⊎_elim, length, map, Some, None, refl, sym, ◌∙◌, ap, subst, arith, Vec, vec_items, get_or, nat_lt}
use Rattle.std.specs.List.{list_all, list_any, slice_get}
use Rattle.std.specs.declared.cmp.Ordering.{Ordering}
use Rattle.std.specs.declared.cmp.Ordering.TheVariants.{Less, Equal, Greater}
use Rattle.std.specs.Ordering.{is_eq, is_gt, nat_cmp, ordering_then}
use Rattle.std.specs.BTreeMap.{BTreeMap, get, is_at}
use Rattle.std.specs.Cmp.Lexicographic.{slice_cmp}
use Rattle.std.specs.Option.{option_map, option_map_or}
use Rattle.std.specs.BTreeSet.{contains}
use Rattle.std.proofs.lemmas.Bool.Decides.{nat_tests}
use Rattle.std.proofs.lemmas.Option.{slice_get-get_or, slice_get-map}
use borrow.Author.Tests.{ltb-true, ltb-false}
use Rattle.std.proofs.lemmas.Map.Lookups.{exact_pairs, exact_unsigned}
use Rattle.pgs_base.specs.Pair.{same_name, has_name}
use Rattle.pgs_resolve_order.specs.declared.listing.Item.{Item}
use Rattle.pgs_resolve_order.specs.declared.listing.Pending.{Pending}
use Rattle.pgs_resolve_order.specs.declared.listing.Queue.{Queue}
use Rattle.pgs_resolve_declared.specs.Order.{Entry, is_ready, soonest}
use Rattle.pgs_resolve_order.specs.Listing.{entry_of, Awaits, Stands, IsKept, AllKept, waiters, next_of, key_cmp}
use Rattle.pgs_resolve_order.specs.Listing.IsKept.{listed, ready, waits}
use Rattle.pgs_resolve_declared.proofs.Same.{one_name, itself, in_turn}
use Rattle.pgs_resolve_order.proofs.Queues.{still_listed, now_listed, not_yet, alike_ready, alike_unready, awaits_more, awaits_less, pushed_from, pushed_stays, pushed_last, none_left, soonest_is, both_tests}

-- ---- places and numbers

is_equal : (o : Ordering) → is_eq o ≡ true → o ≡ Equal
is_equal Less e = cc
is_equal Equal e = refl
is_equal Greater e = cc

pub one_key : (a b : ℕ × ℕ) → is_at (key_cmp a) b ≡ true → a ≡ b
one_key a b e = exact_pairs nat_cmp nat_cmp exact_unsigned exact_unsigned a b (is_equal (key_cmp a b) e)

number_itself : (n : ℕ) → nat_cmp n n ≡ Equal
number_itself n = grind (arith, nat_tests)

pub key_itself : (place number : ℕ) → is_at (key_cmp (place, number)) (place, number) ≡ true
key_itself place number = ap (λ o. is_eq (ordering_then o (nat_cmp number number))) (number_itself place) ∙ ap is_eq (number_itself number)

not_greater : (a b : ℕ) (o : Ordering) → is_gt (ordering_then (nat_cmp a b) o) ≡ false → a ≤ b
not_greater a b Less h = grind (arith, nat_tests)
not_greater a b Equal h = grind (arith, nat_tests)
not_greater a b Greater h = grind (arith, nat_tests)

not_behind : (a b c d : ℕ) → is_gt (ordering_then (nat_cmp a b) (nat_cmp c d)) ≡ false → a ≡ b → c ≤ d
not_behind a b c d h e =
    let same : nat_cmp a b ≡ Equal = ap (nat_cmp a) (sym e) ∙ number_itself a in
    let h2 : is_gt (nat_cmp c d) ≡ false = ap (λ o. is_gt (ordering_then o (nat_cmp c d))) (sym same) ∙ h in
    grind (arith, nat_tests)

-- ---- a type that is ready

module _ (old new : Queue) (place number : ℕ)
    (updates : (key : ℕ × ℕ) → contains key_cmp new.ready key ≡ cond (is_at (key_cmp (place, number)) key) true (contains key_cmp old.ready key)) where
  pub stands_ready : (entries : List Entry) → Awaits entries old.listed place number [] → Stands entries old → Stands entries (record old { ready = new.ready })
  stands_ready entries awaits stands = record {
    ready = λ key there. by key (is_at (key_cmp (place, number)) key) refl (sym (updates key) ∙ there);
    awaited = stands.awaited;
    waiting = stands.waiting;
  }
    where
      by : (key : ℕ × ℕ) (b : Bool) → is_at (key_cmp (place, number)) key ≡ b → cond (is_at (key_cmp (place, number)) key) true (contains key_cmp old.ready key) ≡ true →
          Awaits entries old.listed key.0 key.1 []
      by key true e there = subst (λ (k : ℕ × ℕ). Awaits entries old.listed k.0 k.1 []) (one_key (place, number) key e) awaits
      by key false e there = stands.ready key (ap (λ c. cond c true (contains key_cmp old.ready key)) (sym e) ∙ there)

  pub kept_ready : (entry : Entry) (n : ℕ) → IsKept old entry n → IsKept (record old { ready = new.ready }) entry n
  kept_ready entry n (listed h) = listed h
  kept_ready entry n (ready h) = ready (updates (entry.place, n) ∙ by (is_at (key_cmp (place, number)) (entry.place, n)))
    where
      by : (b : Bool) → cond b true (contains key_cmp old.ready (entry.place, n)) ≡ true
      by true = refl
      by false = h
  kept_ready entry n (waits name k pending at same) = waits name k pending at same

  pub put_ready : (entry : Entry) → place ≡ entry.place → IsKept (record old { ready = new.ready }) entry number
  put_ready entry e =
      ready (updates (entry.place, number) ∙ ap (λ c. cond c true (contains key_cmp old.ready (entry.place, number)))
      (subst (λ p. is_at (key_cmp (place, number)) (p, number) ≡ true) e (key_itself place number)))

-- ---- a type that waits

module _ (old new : Queue) (name : List ℕ) (pending : Pending)
    (updates : (other : List ℕ) → waiters new.waiting other ≡ cond (same_name name other) (waiters old.waiting other ++ pending ∷ []) (waiters old.waiting other)) where
  from_wait : (other : List ℕ) (k : ℕ) (p : Pending) → slice_get (waiters new.waiting other) k ≡ Some p →
      (slice_get (waiters old.waiting other) k ≡ Some p) ⊎ ((name ≡ other) × (p ≡ pending))
  from_wait other k p at = by (same_name name other) refl (ap (λ xs. slice_get xs k) (sym (updates other)) ∙ at)
    where
      by : (b : Bool) → same_name name other ≡ b →
          slice_get (cond (same_name name other) (waiters old.waiting other ++ pending ∷ []) (waiters old.waiting other)) k ≡ Some p →
          (slice_get (waiters old.waiting other) k ≡ Some p) ⊎ ((name ≡ other) × (p ≡ pending))
      by true e at2 =
          ⊎_elim (λ h. inl h) (λ h. inr (one_name name other e, h))
          (pushed_from (waiters old.waiting other) pending k p
          (ap (λ c. slice_get (cond c (waiters old.waiting other ++ pending ∷ []) (waiters old.waiting other)) k) (sym e) ∙ at2))
      by false e at2 = inl (ap (λ c. slice_get (cond c (waiters old.waiting other ++ pending ∷ []) (waiters old.waiting other)) k) (sym e) ∙ at2)

  pub stands_waiting : (entries : List Entry) → has_name name old.listed ≡ false → Awaits entries old.listed pending.place pending.number (name ∷ pending.rest.now) →
      Stands entries old → Stands entries (record old { waiting = new.waiting })
  stands_waiting entries away awaits stands = record {
    ready = stands.ready;
    awaited = λ other k p at. ⊎_elim (λ h. stands.awaited other k p h) (λ h. ap (λ q. has_name q old.listed) (sym h.0) ∙ away) (from_wait other k p at);
    waiting = λ other k p at. ⊎_elim (λ h. stands.waiting other k p h)
        (λ h. subst (λ (q : List ℕ). Awaits entries old.listed p.place p.number (q ∷ p.rest.now)) h.0
        (subst (λ (q : Pending). Awaits entries old.listed q.place q.number (name ∷ q.rest.now)) (sym h.1) awaits))
        (from_wait other k p at);
  }

  pub kept_waiting : (entry : Entry) (n : ℕ) → IsKept old entry n → IsKept (record old { waiting = new.waiting }) entry n
  kept_waiting entry n (listed h) = listed h
  kept_waiting entry n (ready h) = ready h
  kept_waiting entry n (waits other k p at same) = waits other k p (ap (λ xs. slice_get xs k) (updates other) ∙ by (same_name name other)) same
    where
      by : (b : Bool) → slice_get (cond b (waiters old.waiting other ++ pending ∷ []) (waiters old.waiting other)) k ≡ Some p
      by true = pushed_stays (waiters old.waiting other) pending k p at
      by false = at

  pub put_waiting : (entry : Entry) → IsKept (record old { waiting = new.waiting }) entry pending.number
  put_waiting entry =
      waits name (length (waiters old.waiting name)) pending
      (ap (λ xs. slice_get xs (length (waiters old.waiting name))) (updates name ∙ ap (λ c. cond c (waiters old.waiting name ++ pending ∷ []) (waiters old.waiting name)) (itself name))
      ∙ pushed_last (waiters old.waiting name) pending)
      refl

-- what waits for a name, with one more
pub waits_now : {A : Type 0} (old mid : BTreeMap (List ℕ) (Vec Pending A)) (value : Vec Pending A) (name other : List ℕ) (pending : Pending) →
    value.items ≡ waiters old name ++ pending ∷ [] → waiters mid other ≡ cond (same_name name other) [] (waiters old other) →
    option_map_or vec_items (cond (same_name name other) (Some value) (get (slice_cmp nat_cmp) mid other)) []
    ≡ cond (same_name name other) (waiters old other ++ pending ∷ []) (waiters old other)
waits_now {A} old mid value name other pending more taken = by (same_name name other) refl taken
  where
    by : (b : Bool) → same_name name other ≡ b → waiters mid other ≡ cond b [] (waiters old other) →
        option_map_or vec_items (cond b (Some value) (get (slice_cmp nat_cmp) mid other)) [] ≡ cond b (waiters old other ++ pending ∷ []) (waiters old other)
    by true e f = more ∙ ap (λ n. waiters old n ++ pending ∷ []) (one_name name other e)
    by false e f = f

-- ---- a type that is listed

module _ (old new : Queue) (name : List ℕ) (batch : List Pending)
    (these : new.listed ≡ old.listed ++ name ∷ []) (taken : batch ≡ waiters old.waiting name)
    (updates : (other : List ℕ) → waiters new.waiting other ≡ cond (same_name name other) [] (waiters old.waiting other)) where
  from_taken : (other : List ℕ) (k : ℕ) (p : Pending) → slice_get (waiters new.waiting other) k ≡ Some p →
      (slice_get (waiters old.waiting other) k ≡ Some p) × (same_name other name ≡ false)
  from_taken other k p at = by (same_name name other) refl (ap (λ xs. slice_get xs k) (sym (updates other)) ∙ at)
    where
      by : (b : Bool) → same_name name other ≡ b → slice_get (cond (same_name name other) [] (waiters old.waiting other)) k ≡ Some p →
          (slice_get (waiters old.waiting other) k ≡ Some p) × (same_name other name ≡ false)
      by true e at2 = let none : None ≡ Some p = ap (λ c. slice_get (cond c [] (waiters old.waiting other)) k) (sym e) ∙ at2 in absurd (cc)
      by false e at2 = (ap (λ c. slice_get (cond c [] (waiters old.waiting other)) k) (sym e) ∙ at2, in_turn other name ∙ e)

  pub stands_listed : (entries : List Entry) → Stands entries old → Stands entries (record old { listed = new.listed; waiting = new.waiting })
  stands_listed entries stands = record {
    ready = λ key there. subst (λ all. Awaits entries all key.0 key.1 []) (sym these) (awaits_more entries old.listed key.0 key.1 [] name (stands.ready key there));
    awaited = λ other k p at. let h = from_taken other k p at in ap (has_name other) these ∙ not_yet other name old.listed (stands.awaited other k p h.0) h.1;
    waiting = λ other k p at. let h = from_taken other k p at in
        subst (λ all. Awaits entries all p.place p.number (other ∷ p.rest.now)) (sym these)
        (awaits_more entries old.listed p.place p.number (other ∷ p.rest.now) name (stands.waiting other k p h.0));
  }

  pub kept_listed : (entry : Entry) (number : ℕ) → (same_name entry.name name ≡ true) ⊎ IsKept old entry number →
      IsKept (record old { listed = new.listed; waiting = new.waiting }) entry number
      ⊎ ((k : ℕ) × (pending : Pending) × (0 ≤ k) × (slice_get batch k ≡ Some pending) × (pending.number ≡ number))
  kept_listed entry number (inl same) =
      inl (listed (ap (has_name entry.name) these ∙ ap (λ n. has_name entry.name (old.listed ++ n ∷ [])) (sym (one_name entry.name name same)) ∙ now_listed entry.name old.listed))
  kept_listed entry number (inr (listed h)) = inl (listed (ap (has_name entry.name) these ∙ still_listed entry.name old.listed (name ∷ []) h))
  kept_listed entry number (inr (ready h)) = inl (ready h)
  kept_listed entry number (inr (waits other k p at same)) = by (same_name name other) refl
    where
      by : (b : Bool) → same_name name other ≡ b → IsKept (record old { listed = new.listed; waiting = new.waiting }) entry number
          ⊎ ((k : ℕ) × (pending : Pending) × (0 ≤ k) × (slice_get batch k ≡ Some pending) × (pending.number ≡ number))
      by true e =
          inr (k, p, omega arith, ap (λ xs. slice_get xs k) (taken ∙ ap (waiters old.waiting) (one_name name other e)) ∙ at, same)
      by false e = inl (waits other k p (ap (λ xs. slice_get xs k) (updates other ∙ ap (λ c. cond c [] (waiters old.waiting other)) e) ∙ at) same)

  pub awaits_taken : (entries : List Entry) → Stands entries old → (k : ℕ) (p : Pending) → slice_get batch k ≡ Some p →
      Awaits entries new.listed p.place p.number p.rest.now
  awaits_taken entries stands k p at =
      subst (λ all. Awaits entries all p.place p.number p.rest.now) (sym these)
      (awaits_less entries old.listed p.place p.number p.rest.now name (stands.waiting name k p (ap (λ xs. slice_get xs k) (sym taken) ∙ at)))

-- what is left of those that waited
pub kept_next : (entries : List Entry) (old new : Queue) (names : List (List ℕ)) (batch : List Pending) (index : ℕ) (pending : Pending) →
    index < length batch → pending ≡ get_or batch index pending → Awaits entries names pending.place pending.number pending.rest.now →
    ((entry : Entry) (number : ℕ) → IsKept old entry number → IsKept new entry number) →
    ((entry : Entry) → pending.place ≡ entry.place → IsKept new entry pending.number) →
    (entry : Entry) (number : ℕ) → slice_get entries number ≡ Some entry →
    IsKept old entry number ⊎ ((k : ℕ) × (p : Pending) × (index ≤ k) × (slice_get batch k ≡ Some p) × (p.number ≡ number)) →
    IsKept new entry number ⊎ ((k : ℕ) × (p : Pending) × (index + 1 ≤ k) × (slice_get batch k ≡ Some p) × (p.number ≡ number))
kept_next entries old new names batch index pending within this awaits keeps puts entry number is (inl kept) = inl (keeps entry number kept)
kept_next entries old new names batch index pending within this awaits keeps puts entry number is (inr h) = by (nat_lt index h.0) refl
  where
    here : h.0 ≡ index → IsKept new entry number
    here e =
        let one : Some h.1 ≡ Some pending = sym h.3 ∙ ap (slice_get batch) e ∙ slice_get-get_or batch index pending within ∙ ap Some (sym this) in
        let same : h.1 ≡ pending = let f = one in cc in
        let at : pending.number ≡ number = ap (λ (p : Pending). p.number) (sym same) ∙ h.4 in
        let two : Some awaits.entry ≡ Some entry = sym awaits.is ∙ ap (slice_get entries) at ∙ is in
        let this_entry : awaits.entry ≡ entry = let f = two in cc in
        subst (λ n. IsKept new entry n) at (puts entry (awaits.placed ∙ ap (λ (e : Entry). e.place) this_entry))

    by : (b : Bool) → nat_lt index h.0 ≡ b → IsKept new entry number ⊎ ((k : ℕ) × (p : Pending) × (index + 1 ≤ k) × (slice_get batch k ≡ Some p) × (p.number ≡ number))
    by true e = inr (h.0, h.1, (let l = ltb-true index h.0 e in omega arith), h.3, h.4)
    by false e = inl (here (let l = ltb-false index h.0 e in let m = h.2 in omega arith))

-- all types, none of which is listed
pub awaits_first : (items : List Item) (known : List (List ℕ)) (number : ℕ) (item : Item) (names : List (List ℕ)) → number < length items →
    item ≡ get_or items number item → names ≡ item.names.items → Awaits (map entry_of items) known item.place number names
awaits_first items known number item names within this same = record {
  entry = entry_of item;
  is = slice_get-map entry_of items number ∙ ap (option_map entry_of) (slice_get-get_or items number item within ∙ ap Some (sym this));
  placed = refl;
  alike = λ more. ap (list_all (λ name. has_name name (known ++ more))) (sym same);
}

pub kept_first : (items : List Item) (old new : Queue) (number : ℕ) (item : Item) → number < length items → item ≡ get_or items number item →
    ((entry : Entry) (n : ℕ) → slice_get (map entry_of items) n ≡ Some entry → n < number → IsKept old entry n) →
    ((entry : Entry) (n : ℕ) → IsKept old entry n → IsKept new entry n) →
    ((entry : Entry) → item.place ≡ entry.place → IsKept new entry number) →
    (entry : Entry) (n : ℕ) → slice_get (map entry_of items) n ≡ Some entry → n < number + 1 → IsKept new entry n
kept_first items old new number item within this before keeps puts entry n is less = by (nat_lt n number) refl
  where
    here : n ≡ number → IsKept new entry n
    here e =
        let one : Some (entry_of item) ≡ Some entry =
        sym (slice_get-map entry_of items number ∙ ap (option_map entry_of) (slice_get-get_or items number item within ∙ ap Some (sym this)))
        ∙ ap (slice_get (map entry_of items)) (sym e) ∙ is in
        let same : entry_of item ≡ entry = let f = one in cc in
        subst (λ m. IsKept new entry m) (sym e) (puts entry (ap (λ (x : Entry). x.place) same))

    by : (b : Bool) → nat_lt n number ≡ b → IsKept new entry n
    by true e = keeps entry n (before entry n is (ltb-true n number e))
    by false e = here (let l = ltb-false n number e in omega arith)

-- ---- the next one

module _ (old new : Queue) (key : ℕ × ℕ)
    (updates : (other : ℕ × ℕ) → contains key_cmp new.ready other ≡ cond (is_at (key_cmp key) other) false (contains key_cmp old.ready other)) where
  pub stands_popped : (entries : List Entry) → Stands entries old → Stands entries (record old { ready = new.ready })
  stands_popped entries stands = record {
    ready = λ other there. stands.ready other (by other (is_at (key_cmp key) other) (sym (updates other) ∙ there));
    awaited = stands.awaited;
    waiting = stands.waiting;
  }
    where
      by : (other : ℕ × ℕ) (b : Bool) → cond b false (contains key_cmp old.ready other) ≡ true → contains key_cmp old.ready other ≡ true
      by other true e = cc
      by other false e = e

  pub kept_popped : (entry : Entry) (number : ℕ) → IsKept old entry number → (key ≡ (entry.place, number)) ⊎ IsKept (record old { ready = new.ready }) entry number
  kept_popped entry number (listed h) = inr (listed h)
  kept_popped entry number (waits name k p at same) = inr (waits name k p at same)
  kept_popped entry number (ready h) = by (is_at (key_cmp key) (entry.place, number)) refl
    where
      by : (b : Bool) → is_at (key_cmp key) (entry.place, number) ≡ b → (key ≡ (entry.place, number)) ⊎ IsKept (record old { ready = new.ready }) entry number
      by true e = inl (one_key key (entry.place, number) e)
      by false e = inr (ready (updates (entry.place, number) ∙ ap (λ c. cond c false (contains key_cmp old.ready (entry.place, number))) e ∙ h))

-- whether an entry isn't listed and is ready
abbrev pub is_next : List (List ℕ) → Entry → Bool
is_next names entry = not (has_name entry.name names) && is_ready names entry

both_true : (a b : Bool) → (not a && b) ≡ true → (a ≡ false) × (b ≡ true)
both_true true b e = absurd (cc)
both_true false b e = (refl, e)

-- an entry that is kept, and comes next, is ready
pub next_in_ready : (entries : List Entry) (queue : Queue) (entry : Entry) (number : ℕ) → Stands entries queue → slice_get entries number ≡ Some entry →
    IsKept queue entry number → is_next queue.listed entry ≡ true → contains key_cmp queue.ready (entry.place, number) ≡ true
next_in_ready entries queue entry number stands is (listed h) next =
    let e = both_true (has_name entry.name queue.listed) (is_ready queue.listed entry) next in
    let clash : false ≡ true = sym e.0 ∙ h in
    absurd (cc)
next_in_ready entries queue entry number stands is (ready h) next = h
next_in_ready entries queue entry number stands is (waits name k p at same) next =
    let e = both_true (has_name entry.name queue.listed) (is_ready queue.listed entry) next in
    let w = stands.waiting name k p at in
    let one : Some w.entry ≡ Some entry = sym w.is ∙ ap (slice_get entries) same ∙ is in
    let unready : is_ready queue.listed w.entry ≡ false = alike_unready queue.listed w.entry.names p.rest.now name w.alike (stands.awaited name k p at) in
    let this : w.entry ≡ entry = cc in
    let clash : false ≡ true = sym unready ∙ ap (is_ready queue.listed) this ∙ e.1 in
    absurd (cc)

pub next_none : (entries : List Entry) (queue : Queue) → Stands entries queue → AllKept entries queue →
    ((key : ℕ × ℕ) → contains key_cmp queue.ready key ≡ false) → next_of queue.listed entries ≡ None
next_none entries queue stands kept none =
    ap soonest (both_tests (is_ready queue.listed) (λ (entry : Entry). not (has_name entry.name queue.listed)) entries
    ∙ none_left (is_next queue.listed) entries (λ entry number is. by entry number is (is_next queue.listed entry) refl))
  where
    by : (entry : Entry) (number : ℕ) → slice_get entries number ≡ Some entry → (b : Bool) → is_next queue.listed entry ≡ b → is_next queue.listed entry ≡ false
    by entry number is false e = e
    by entry number is true e =
        let there = next_in_ready entries queue entry number stands is (kept entry number is) e in
        let away = none (entry.place, number) in
        absurd (cc)

pub next_some : (entries : List Entry) (queue : Queue) (key : ℕ × ℕ) (entry : Entry) → Stands entries queue → AllKept entries queue →
    contains key_cmp queue.ready key ≡ true →
    ((other : ℕ × ℕ) → contains key_cmp queue.ready other ≡ true → is_gt (key_cmp key other) ≡ false) →
    slice_get entries key.1 ≡ Some entry → has_name entry.name queue.listed ≡ false → next_of queue.listed entries ≡ Some entry
next_some entries queue key entry stands kept there least is away =
    ap soonest (both_tests (is_ready queue.listed) (λ (e : Entry). not (has_name e.name queue.listed)) entries)
    ∙ soonest_is (is_next queue.listed) entries entry key.1 is passes
    (λ other n at next. let l = not_greater key.0 other.place (nat_cmp key.1 n) (bound other n at next) in omega (arith, placed))
    (λ other n at next same. not_behind key.0 other.place key.1 n (bound other n at next) (placed ∙ same))
  where
    a : Awaits entries queue.listed key.0 key.1 []
    a = stands.ready key there

    one : Some a.entry ≡ Some entry
    one = sym a.is ∙ is

    this : a.entry ≡ entry
    this = let e = one in cc

    placed : key.0 ≡ entry.place
    placed = a.placed ∙ ap (λ (e : Entry). e.place) this

    passes : is_next queue.listed entry ≡ true
    passes =
        ap (λ b. not b && is_ready queue.listed entry) away
        ∙ ap (is_ready queue.listed) (sym this) ∙ alike_ready queue.listed a.entry.names a.alike

    bound : (other : Entry) (n : ℕ) → slice_get entries n ≡ Some other → is_next queue.listed other ≡ true → is_gt (key_cmp key (other.place, n)) ≡ false
    bound other n at next = least (other.place, n) (next_in_ready entries queue other n stands at (kept other n at) next)

-- the entry of a key
pub same_entry : (entries : List Entry) (key : ℕ × ℕ) (entry other : Entry) (number : ℕ) → key ≡ (entry.place, number) → slice_get entries number ≡ Some entry →
    slice_get entries key.1 ≡ Some other → same_name entry.name other.name ≡ true
same_entry entries key entry other number same is at =
    let one : Some entry ≡ Some other = sym is ∙ ap (λ (k : ℕ × ℕ). slice_get entries k.1) (sym same) ∙ at in
    let e : entry ≡ other = let f = one in cc in
    ap (λ (x : Entry). same_name entry.name x.name) (sym e) ∙ itself entry.name

pub no_keys : (keys : List (ℕ × ℕ)) → (0 < length keys → false ≡ true) → keys ≡ []
no_keys [] h = refl
no_keys (key ∷ keys) h = let e = h (omega arith) in cc

pub no_key : (queue : Queue) → queue.ready.keys ≡ [] → (key : ℕ × ℕ) → contains key_cmp queue.ready key ≡ false
no_key queue none key = ap (list_any (is_at (key_cmp key))) none
