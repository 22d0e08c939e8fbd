-- What is reached along links, place by place.
use Rattle.std.proofs.Common.{◌≡◌, ℕ, zero, suc, ◌+◌, ◌-◌, ◌<◌, ◌≤◌, ◌==◌, Bool, true, false, ◌||◌, cond, not, ◌⊎◌, inl, inr, List, [], ◌∷◌, ◌++◌, length, take, get_or, set, replicate, refl, sym, ◌∙◌, ap, subst, arith, length-append, length-set, get_or-set_same}
use Rattle.std.specs.List.{list_any, count_by, sum_by}
use Rattle.std.proofs.Math.ListN.{get_or-append}
use Rattle.std.proofs.Math.Seq.{get_or-append_seam}
use Rattle.std.proofs.lemmas.Bool.{cases_lt}
use Rattle.std.proofs.lemmas.Bool.Decides.{nat_tests}
use Rattle.std.proofs.lemmas.List.{set-get_or, get_or_past, length-replicate}
use Rattle.std.proofs.lemmas.List.Folds.{list_any-append, list_any_at, list_any_more}
use Rattle.std.proofs.lemmas.List.Sums.{count_by-le-length, sum_by-set}
use Rattle.pgs_resolve_order.specs.Links.{row_at, leads_in, is_set}
use Rattle.pgs_resolve_order.specs.Reached.{is_among, is_unseen, with_reached, AreReached, AreSeen, StaySeen, StayReached}
use Rattle.pgs_resolve_order.proofs.Leading.{any_more, or_so, in_more_steps}

-- ---- links

same_number : (n : ℕ) → (n == n) ≡ true
same_number n = let e : n ≡ n = refl in grind (arith, nat_tests)

pub first_step : (rows : List (List ℕ)) (steps from to : ℕ) → is_among (row_at rows from) to ≡ true → leads_in rows (suc steps) from to ≡ true
first_step rows steps from to link =
    any_more (λ n. n == to) (λ n. n == to || leads_in rows steps n to) (λ n same. ap (λ b. b || leads_in rows steps n to) same) (row_at rows from) link

-- a step behind others
pub step_after : (rows : List (List ℕ)) (steps from at to : ℕ) → leads_in rows steps from at ≡ true → is_among (row_at rows at) to ≡ true →
    leads_in rows (suc steps) from to ≡ true
step_after rows zero from at to e link = absurd (cc)
step_after rows (suc steps) from at to e link =
    any_more (λ n. n == at || leads_in rows steps n at) (λ n. n == to || leads_in rows (suc steps) n to)
    (λ n. by n (n == at) refl (step_after rows steps n at to)) (row_at rows from) e
  where
    by : (n : ℕ) (b : Bool) → (n == at) ≡ b → (leads_in rows steps n at ≡ true → is_among (row_at rows at) to ≡ true → leads_in rows (suc steps) n to ≡ true) →
        (b || leads_in rows steps n at) ≡ true → (n == to || leads_in rows (suc steps) n to) ≡ true
    by n true same h f =
        let g : n ≡ at = grind (arith, nat_tests) in
        or_so (n == to) (leads_in rows (suc steps) n to) (ap (λ m. leads_in rows (suc steps) m to) g ∙ first_step rows steps at to link)
    by n false same h f = or_so (n == to) (leads_in rows (suc steps) n to) (h f link)

-- what leads somewhere has a row
pub has_row : (rows : List (List ℕ)) (steps from to : ℕ) → leads_in rows steps from to ≡ true → from < length rows
has_row rows zero from to e = absurd (cc)
has_row rows (suc steps) from to e = elim (cases_lt from (length rows)) [
  | inl l ↦ l
  | inr l ↦
      let none : leads_in rows (suc steps) from to ≡ false = ap (list_any (λ n. n == to || leads_in rows steps n to)) (get_or_past rows from [] l) in
      absurd (cc)
]

-- one of numbers that passes a test, and the place of one that is among them
pub one_of : (p : ℕ → Bool) (xs : List ℕ) → list_any p xs ≡ true → (x : ℕ) × (is_among xs x ≡ true) × (p x ≡ true)
one_of p [] e = absurd (cc)
one_of p (x ∷ xs) e = by (p x) refl (one_of p xs) e
  where
    by : (b : Bool) → p x ≡ b → (list_any p xs ≡ true → (y : ℕ) × (is_among xs y ≡ true) × (p y ≡ true)) → (b || list_any p xs) ≡ true →
        (y : ℕ) × (is_among (x ∷ xs) y ≡ true) × (p y ≡ true)
    by true f h e = (x, ap (λ b. b || is_among xs x) (same_number x), f)
    by false f h e = let i = h e in (i.0, or_so (x == i.0) (is_among xs i.0) i.1, i.2)

pub place_of : (xs : List ℕ) (x : ℕ) → is_among xs x ≡ true → (k : ℕ) × (k < length xs) × (get_or xs k 0 ≡ x)
place_of [] x e = absurd (cc)
place_of (y ∷ xs) x e = by (y == x) refl (place_of xs x) e
  where
    by : (b : Bool) → (y == x) ≡ b → (is_among xs x ≡ true → (k : ℕ) × (k < length xs) × (get_or xs k 0 ≡ x)) → (b || is_among xs x) ≡ true →
        (k : ℕ) × (k < length (y ∷ xs)) × (get_or (y ∷ xs) k 0 ≡ x)
    by true f h e = (zero, omega arith, grind (arith, nat_tests))
    by false f h e = let i = h e in (suc i.0, omega (arith, i.1), i.2)

-- ---- flags

flag_within : (seen : List Bool) (k : ℕ) → get_or seen k true ≡ false → k < length seen
flag_within seen k e = elim (cases_lt k (length seen)) [
  | inl l ↦ l
  | inr l ↦ let past = get_or_past seen k true l in absurd (cc)
]

sees_one : (seen : List Bool) (k : ℕ) → get_or seen k true ≡ false →
    (k < length seen) × (count_by (λ flag. flag) (set seen k true) ≡ suc (count_by (λ flag. flag) seen)) × (count_by (λ flag. flag) seen < length seen)
sees_one seen k e =
    let l = flag_within seen k e in
    let one : Bool → ℕ = λ flag. cond flag 1 0 in
    let off : one (get_or seen k true) ≡ 0 = ap one e in
    let more : sum_by one (set seen k true) + one (get_or seen k true) ≡ sum_by one seen + 1 = sum_by-set one seen k true true l in
    let most : sum_by one (set seen k true) ≤ length (set seen k true) = count_by-le-length (λ flag. flag) (set seen k true) in
    let len = length-set seen k true in
    (l, omega (arith, more, off), omega (arith, more, off, most, len))

pub set_stays : (seen : List Bool) (k n : ℕ) → is_set seen n ≡ true → is_set (set seen k true) n ≡ true
set_stays [] k n e = e
set_stays (flag ∷ seen) zero zero e = refl
set_stays (flag ∷ seen) zero (suc n) e = e
set_stays (flag ∷ seen) (suc k) zero e = e
set_stays (flag ∷ seen) (suc k) (suc n) e = set_stays seen k n e

set_only : (seen : List Bool) (k n : ℕ) → is_set (set seen k true) n ≡ true → (is_set seen n ≡ true) ⊎ (n ≡ k)
set_only [] k n e = inl e
set_only (flag ∷ seen) zero zero e = inr refl
set_only (flag ∷ seen) zero (suc n) e = inl e
set_only (flag ∷ seen) (suc k) zero e = inl e
set_only (flag ∷ seen) (suc k) (suc n) e = elim (set_only seen k n e) [ inl a ↦ inl a | inr b ↦ inr (ap suc b) ]

none_set : (n k : ℕ) → is_set (replicate n false) k ≡ false
none_set zero k = refl
none_set (suc n) zero = refl
none_set (suc n) (suc k) = none_set n k

-- ---- one more

among_more : (xs ys : List ℕ) (x : ℕ) → is_among xs x ≡ true → is_among (xs ++ ys) x ≡ true
among_more xs ys x e = list_any-append (λ y. y == x) xs ys ∙ ap (λ b. b || is_among ys x) e

among_last : (xs : List ℕ) (x : ℕ) → is_among (xs ++ x ∷ []) x ≡ true
among_last xs x = list_any-append (λ y. y == x) xs (x ∷ []) ∙ or_so (is_among xs x) (is_among (x ∷ []) x) (ap (λ b. b || false) (same_number x))

module _ (rows : List (List ℕ)) (start : ℕ) (seen : List Bool) (reached : List ℕ) (h : AreReached rows start seen reached) where
  next_led : (place from next : ℕ) → place < length reached → get_or reached place 0 ≡ from → is_among (row_at rows from) next ≡ true →
      leads_in rows (suc place) start next ≡ true
  next_led zero from next l e link =
      let s : start ≡ from = sym h.first ∙ e in
      ap (λ n. leads_in rows 1 n next) s ∙ first_step rows 0 from next link
  next_led (suc place) from next l e link =
      step_after rows (suc place) start from next (ap (leads_in rows (suc place) start) (sym e) ∙ h.led (suc place) (omega arith) l) link

  module _ (place from next : ℕ) (l : place < length reached) (e : get_or reached place 0 ≡ from) (link : is_among (row_at rows from) next ≡ true) where
    led_in : (steps : ℕ) → place < steps → leads_in rows steps start next ≡ true
    led_in steps more = in_more_steps rows (steps - suc place) (suc place) steps start next (omega arith) (next_led place from next l e link)

    sees_new : get_or seen next true ≡ false → AreReached rows start (set seen next true) (reached ++ next ∷ [])
    sees_new new =
        let one = sees_one seen next new in
        let longer = length-append reached (next ∷ []) in
        let here : place < length rows = let f = h.few in let m = h.len in omega (arith, one, f, m, l) in
        record {
          len = length-set seen next true ∙ h.len;
          begun = omega (arith, longer);
          first = get_or-append reached (next ∷ []) 0 0 h.begun ∙ h.first;
          few = let f = h.few in omega (arith, one, longer, f);
          led = λ k some within. elim (cases_lt k (length reached)) [
            | inl less ↦ ap (leads_in rows k start) (get_or-append reached (next ∷ []) 0 k less) ∙ h.led k some less
            | inr most ↦
                let k_is : k ≡ length reached = omega (arith, longer) in
                ap (leads_in rows k start) (ap (λ n. get_or (reached ++ next ∷ []) n 0) k_is ∙ get_or-append_seam reached next [] 0)
                ∙ led_in k (omega (arith, k_is, l))
          ];
          seen_led = λ n set_now. elim (set_only seen next n set_now) [
            | inl before ↦ h.seen_led n before
            | inr same ↦ ap (leads_in rows (length rows) start) same ∙ led_in (length rows) here
          ];
          seen_among = λ n set_now. elim (set_only seen next n set_now) [
            | inl before ↦ among_more reached (next ∷ []) n (h.seen_among n before)
            | inr same ↦ ap (is_among (reached ++ next ∷ [])) same ∙ among_last reached next
          ];
        }

    pub sees : AreReached rows start (set seen next true) (with_reached seen reached next)
    sees = by (get_or seen next true) refl
      where
        by : (b : Bool) → get_or seen next true ≡ b → AreReached rows start (set seen next true) (cond (not b) (reached ++ next ∷ []) reached)
        by false new = sees_new new
        by true old = subst (λ s. AreReached rows start s reached) (sym (set-get_or seen next true) ∙ ap (set seen next) old) h

-- ---- at the start and at the end

pub begins : (rows : List (List ℕ)) (start : ℕ) (seen : List Bool) (reached : List ℕ) → seen ≡ replicate (length rows) false → reached ≡ start ∷ [] →
    AreReached rows start seen reached
begins rows start seen reached e f = subst (λ s. AreReached rows start s reached) (sym e) (subst (AreReached rows start (replicate (length rows) false)) (sym f) record {
  len = length-replicate (length rows) false;
  begun = omega arith;
  first = refl;
  few = omega arith;
  led = λ k some within. absurd (omega arith);
  seen_led = λ n now. let off = none_set (length rows) n in absurd (cc);
  seen_among = λ n now. let off = none_set (length rows) n in absurd (cc);
})

pub no_more_places : (rows : List (List ℕ)) (start : ℕ) (seen : List Bool) (reached : List ℕ) → AreReached rows start seen reached → length reached ≤ suc (length rows)
no_more_places rows start seen reached h = let c = count_by-le-length (λ flag. flag) seen in let f = h.few in let m = h.len in omega (arith, c, f, m)

module _ (rows : List (List ℕ)) (start : ℕ) (seen : List Bool) (reached : List ℕ) (h : AreReached rows start seen reached)
    (followed : (k : ℕ) → k < length reached → AreSeen seen (row_at rows (get_or reached k 0))) where
  all_seen : (from : ℕ) → is_among reached from ≡ true → AreSeen seen (row_at rows from)
  all_seen from among = let p = place_of reached from among in subst (λ n. AreSeen seen (row_at rows n)) p.2 (followed p.0 p.1)

  led_seen : (steps from to : ℕ) → to < length rows → is_among reached from ≡ true → leads_in rows steps from to ≡ true → is_set seen to ≡ true
  led_seen zero from to within among e = absurd (cc)
  led_seen (suc steps) from to within among e =
      let one = one_of (λ n. n == to || leads_in rows steps n to) (row_at rows from) e in
      by one.0 one.1 (one.0 == to) refl (led_seen steps one.0 to within) one.2
    where
      by : (n : ℕ) → is_among (row_at rows from) n ≡ true → (b : Bool) → (n == to) ≡ b → (is_among reached n ≡ true → leads_in rows steps n to ≡ true → is_set seen to ≡ true) →
          (b || leads_in rows steps n to) ≡ true → is_set seen to ≡ true
      by n link true same rest f =
          let g : n ≡ to = grind (arith, nat_tests) in
          all_seen from among to (let m = h.len in omega (arith, m)) (ap (is_among (row_at rows from)) (sym g) ∙ link)
      by n link false same rest f =
          let l = has_row rows steps n to f in
          rest (h.seen_among n (all_seen from among n (let m = h.len in omega (arith, m, l)) link)) f

  pub all_led : (to : ℕ) → to < length rows → is_set seen to ≡ leads_in rows (length rows) start to
  all_led to within = by (is_set seen to) (leads_in rows (length rows) start to) refl refl
    where
      begun : is_among reached start ≡ true
      begun = elim_first reached h.begun h.first
        where
          elim_first : (xs : List ℕ) → 0 < length xs → get_or xs 0 0 ≡ start → is_among xs start ≡ true
          elim_first [] l e = absurd (omega arith)
          elim_first (x ∷ xs) l e = let f : x ≡ start = e in let g : (x == start) ≡ true = grind (arith, nat_tests) in ap (λ b. b || is_among xs start) g

      by : (b c : Bool) → is_set seen to ≡ b → leads_in rows (length rows) start to ≡ c → b ≡ c
      by true true e f = refl
      by false false e f = refl
      by true false e f = let g = h.seen_led to e in cc
      by false true e f = let g = led_seen (length rows) start to within begun f in cc

-- ---- along a row, and from place to place

pub same_reached : (rows : List (List ℕ)) (start : ℕ) (seen now : List Bool) (reached all : List ℕ) → AreReached rows start seen reached → now ≡ seen → all ≡ reached →
    AreReached rows start now all
same_reached rows start seen now reached all h e f = subst (λ s. AreReached rows start s all) (sym e) (subst (AreReached rows start seen) (sym f) h)

pub a_link : (rows : List (List ℕ)) (items : List ℕ) (from i : ℕ) → items ≡ row_at rows from → i < length items → is_among (row_at rows from) (get_or items i 0) ≡ true
a_link rows items from i e l =
    ap (λ xs. is_among xs (get_or items i 0)) (sym e) ∙ list_any_at (λ other. other == get_or items i 0) items i 0 l (same_number (get_or items i 0))

pub seen_more : (seen : List Bool) (items : List ℕ) (i : ℕ) → i < length items → AreSeen seen (take i items) → AreSeen (set seen (get_or items i 0) true) (take (i + 1) items)
seen_more seen items i l h = λ n within among.
    by n within (is_among (take i items) n) refl (sym (list_any_more (λ other. other == n) items i 0 l) ∙ among)
  where
    by : (n : ℕ) → n < length (set seen (get_or items i 0) true) → (b : Bool) → is_among (take i items) n ≡ b → (b || get_or items i 0 == n) ≡ true →
        is_set (set seen (get_or items i 0) true) n ≡ true
    by n within true f e =
        let len = length-set seen (get_or items i 0) true in
        set_stays seen (get_or items i 0) n (h n (omega (arith, within, len)) f)
    by n within false f e =
        let len = length-set seen (get_or items i 0) true in
        let g : get_or items i 0 ≡ n = grind (arith, nat_tests) in
        ap (λ m. is_set (set seen m true) n) g ∙ get_or-set_same seen n true false (omega (arith, within, len))

pub stay_more : (old reached : List ℕ) (seen : List Bool) (n : ℕ) → StayReached old reached → StayReached old (with_reached seen reached n)
stay_more old reached seen n h = by (is_unseen seen n)
  where
    by : (b : Bool) → StayReached old (cond b (reached ++ n ∷ []) reached)
    by true =
        let l = length-append reached (n ∷ []) in
        let m = h.longer in
        record {
          longer = omega (arith, l, m);
          kept = λ place within. get_or-append reached (n ∷ []) 0 place (omega (arith, within, m)) ∙ h.kept place within;
        }
    by false = h

pub follow_more : (rows : List (List ℕ)) (seen now : List Bool) (reached all : List ℕ) (place from : ℕ) → length now ≡ length seen → place < length reached →
    get_or reached place 0 ≡ from → StaySeen seen now → StayReached reached all → AreSeen now (row_at rows from) →
    ((k : ℕ) → k < place → AreSeen seen (row_at rows (get_or reached k 0))) → (k : ℕ) → k < place + 1 → AreSeen now (row_at rows (get_or all k 0))
follow_more rows seen now reached all place from len l e stays places here before k most = λ n within among. elim (cases_lt k place) [
  | inl less ↦
      let same : get_or reached k 0 ≡ get_or all k 0 = sym (places.kept k (omega (arith, less, l))) in
      stays n (before k less n (omega (arith, within, len)) (ap (λ m. is_among (row_at rows m) n) same ∙ among))
  | inr least ↦
      let k_is : place ≡ k = omega (arith, least, most) in
      let same : from ≡ get_or all k 0 = sym e ∙ sym (places.kept place l) ∙ ap (λ m. get_or all m 0) k_is in
      here n within (ap (λ m. is_among (row_at rows m) n) same ∙ among)
]
