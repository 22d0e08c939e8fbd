-- Which places a walk visits: none twice, an edge's nodes with it, and in the end each place whose variable is reached.
use Rattle.std.proofs.Common.{true≢false, ◌≡◌, ℕ, zero, suc, ◌+◌, ◌-◌, ◌<◌, ◌≤◌, Bool, true, false, not, cond, ◌||◌, ◌⊎◌, inl, inr, List, [], ◌∷◌, ◌++◌, length, Option, Some, None, refl, sym, ◌∙◌, ap, arith, eqb}
use Rattle.std.specs.List.{list_any, find}
use Rattle.std.specs.Option.{option_map_or}
use Rattle.std.proofs.lemmas.Bool.{and_from, and_parts, or_left, or_right, or_cases, or_parts, eqb-true, eq-eqb, cases_lt}
use Rattle.std.proofs.lemmas.List.Folds.{list_any-append}
use Rattle.pgs_syntax.specs.Valid.{are_distinct}
use Rattle.pgs_key_causes.specs.declared.walk.Occurrence.{Occurrence}
use Rattle.pgs_key_causes.specs.declared.walk.Visit.{Visit}
use Rattle.pgs_key_causes.specs.Walk.{var_at, is_visited, is_reached, with_visit, with_way, with_own, with_all, numbers, is_start, is_alone, is_next, with_step, walk_on, walk}

-- ---- one visit more

some_stays : (test : Visit → Bool) (visits : List Visit) (n from : ℕ) → list_any test visits ≡ true → list_any test (with_visit visits n from) ≡ true
some_stays test visits n from h = by (is_visited visits n)
  where
    by : (b : Bool) → list_any test (cond b visits (visits ++ record { place = n; from = from } ∷ [])) ≡ true
    by true = h
    by false = list_any-append test visits (record { place = n; from = from } ∷ []) ∙ or_left (list_any test visits) _ h

stays_with : (visits : List Visit) (n from m : ℕ) → is_visited visits m ≡ true → is_visited (with_visit visits n from) m ≡ true
stays_with visits n from m h = some_stays (λ (visit : Visit). eqb visit.place m) visits n from h

here_with : (visits : List Visit) (n from : ℕ) → is_visited (with_visit visits n from) n ≡ true
here_with visits n from = by (is_visited visits n) refl
  where
    by : (b : Bool) → is_visited visits n ≡ b → is_visited (cond b visits (visits ++ record { place = n; from = from } ∷ [])) n ≡ true
    by true e = e
    by false e =
        list_any-append (λ (visit : Visit). eqb visit.place n) visits (record { place = n; from = from } ∷ [])
        ∙ or_right (is_visited visits n) _ (or_left (eqb n n) _ (eq-eqb n n refl))

some_with : (test : Visit → Bool) (visits : List Visit) (n from : ℕ) → list_any test (with_visit visits n from) ≡ true →
    (list_any test visits ≡ true) ⊎ (test (record { place = n; from = from }) ≡ true)
some_with test visits n from = by (is_visited visits n)
  where
    one : test (record { place = n; from = from }) || false ≡ true → test (record { place = n; from = from }) ≡ true
    one h = elim (or_cases (test (record { place = n; from = from })) false h) [ inl e ↦ e | inr e ↦ absurd (true≢false (sym e)) ]

    by : (b : Bool) → list_any test (cond b visits (visits ++ record { place = n; from = from } ∷ [])) ≡ true →
        (list_any test visits ≡ true) ⊎ (test (record { place = n; from = from }) ≡ true)
    by true h = inl h
    by false h =
        elim (or_cases (list_any test visits) _ (sym (list_any-append test visits (record { place = n; from = from } ∷ [])) ∙ h)) [ inl e ↦ inl e | inr e ↦ inr (one e) ]

from_with : (visits : List Visit) (n from m : ℕ) → is_visited (with_visit visits n from) m ≡ true → (is_visited visits m ≡ true) ⊎ (m ≡ n)
from_with visits n from m h = elim (some_with (λ (visit : Visit). eqb visit.place m) visits n from h) [
  | inl e ↦ inl e
  | inr e ↦ inr (sym (eqb-true n m e))
]

-- ---- none twice

abbrev pub one_place : Visit → Visit → Bool
one_place a b = eqb a.place b.place

distinct_push : (visits : List Visit) (visit : Visit) → are_distinct one_place visits ≡ true → is_visited visits visit.place ≡ false →
    are_distinct one_place (visits ++ visit ∷ []) ≡ true
distinct_push [] visit d new = refl
distinct_push (other ∷ others) visit d new =
    let parts = and_parts (not (list_any (one_place other) others)) (are_distinct one_place others) d in
    let apart = or_parts (eqb other.place visit.place) (is_visited others visit.place) new in
    and_from _ _ (fresh (list_any (one_place other) others) parts.0 apart.0) (distinct_push others visit parts.1 apart.1)
  where
    fresh : (b : Bool) → not (list_any (one_place other) others) ≡ true → eqb other.place visit.place ≡ false →
        not (list_any (one_place other) (others ++ visit ∷ [])) ≡ true
    fresh b old apart =
        ap not (list_any-append (one_place other) others (visit ∷ []) ∙ ap (λ t. list_any (one_place other) others || (t || false)) apart)
        ∙ none (list_any (one_place other) others) old
      where
        none : (t : Bool) → not t ≡ true → not (t || (false || false)) ≡ true
        none true h = h
        none false h = refl

distinct_with : (visits : List Visit) (n from : ℕ) → are_distinct one_place visits ≡ true → are_distinct one_place (with_visit visits n from) ≡ true
distinct_with visits n from d = by (is_visited visits n) refl
  where
    by : (b : Bool) → is_visited visits n ≡ b → are_distinct one_place (cond b visits (visits ++ record { place = n; from = from } ∷ [])) ≡ true
    by true e = d
    by false e = distinct_push visits (record { place = n; from = from }) d e

module _ (places : List Occurrence) where
  distinct_step : (visits : List Visit) (e : ℕ) → are_distinct one_place visits ≡ true → are_distinct one_place (with_step places visits e) ≡ true
  distinct_step visits e d = by (is_reached places visits (e - 1)) (is_reached places visits (e + 1))
    where
      three : (a f b g c h : ℕ) → are_distinct one_place (with_visit (with_visit (with_visit visits a f) b g) c h) ≡ true
      three a f b g c h =
          distinct_with (with_visit (with_visit visits a f) b g) c h (distinct_with (with_visit visits a f) b g (distinct_with visits a f d))

      by : (a c : Bool) → are_distinct one_place (cond a (with_way visits (e - 1) e (e + 1))
          (cond c (with_way visits (e + 1) e (e - 1)) (with_visit (with_visit (with_visit visits e e) (e - 1) e) (e + 1) e))) ≡ true
      by true c = three (e - 1) (e - 1) e (e - 1) (e + 1) (e - 1)
      by false true = three (e + 1) (e + 1) e (e + 1) (e - 1) (e + 1)
      by false false = three e e (e - 1) e (e + 1) e

  distinct_own : (test : List Visit → ℕ → Bool) (visits : List Visit) (n : ℕ) → are_distinct one_place visits ≡ true →
      are_distinct one_place (with_own places test visits n) ≡ true
  distinct_own test visits zero d = d
  distinct_own test visits (suc n) d = by (test (with_own places test visits n) n) (distinct_own test visits n d)
    where
      by : (b : Bool) → are_distinct one_place (with_own places test visits n) ≡ true →
          are_distinct one_place (cond b (with_visit (with_own places test visits n) n n) (with_own places test visits n)) ≡ true
      by true before = distinct_with (with_own places test visits n) n n before
      by false before = before

  distinct_on : (more : ℕ) (visits : List Visit) → are_distinct one_place visits ≡ true → are_distinct one_place (walk_on places more visits) ≡ true
  distinct_on zero visits d = d
  distinct_on (suc more) visits d =
      by (find (is_next places visits) (numbers places))
      (λ e. distinct_on more (with_all places (is_alone places) (with_step places visits e))
      (distinct_own (is_alone places) (with_step places visits e) (length places) (distinct_step visits e d)))
    where
      by : (o : Option ℕ) → ((e : ℕ) → are_distinct one_place (walk_on places more (with_all places (is_alone places) (with_step places visits e))) ≡ true) →
          are_distinct one_place (option_map_or (λ e. walk_on places more (with_all places (is_alone places) (with_step places visits e))) o visits) ≡ true
      by None later = d
      by (Some e) later = later e

  pub walk_distinct : are_distinct one_place (walk places) ≡ true
  walk_distinct =
      distinct_on (length places) (with_all places (is_start places) []) (distinct_own (is_start places) [] (length places) refl)

-- ---- the visits of a step

module _ (places : List Occurrence) (visits : List Visit) (e : ℕ) where
  pub record IsStep (after : List Visit) : Type 0 where
    pub old : (m : ℕ) → is_visited visits m ≡ true → is_visited after m ≡ true
    pub left : is_visited after (e - 1) ≡ true
    pub edge : is_visited after e ≡ true
    pub right : is_visited after (e + 1) ≡ true
    pub only : (m : ℕ) → is_visited after m ≡ true → (is_visited visits m ≡ true) ⊎ ((m ≡ e - 1) ⊎ ((m ≡ e) ⊎ (m ≡ e + 1)))

  module _ (a f b g c h : ℕ) where
    abbrev three : List Visit
    three = with_visit (with_visit (with_visit visits a f) b g) c h

    has_old : (m : ℕ) → is_visited visits m ≡ true → is_visited three m ≡ true
    has_old m k = stays_with (with_visit (with_visit visits a f) b g) c h m (stays_with (with_visit visits a f) b g m (stays_with visits a f m k))

    has_first : is_visited three a ≡ true
    has_first = stays_with (with_visit (with_visit visits a f) b g) c h a (stays_with (with_visit visits a f) b g a (here_with visits a f))

    has_second : is_visited three b ≡ true
    has_second = stays_with (with_visit (with_visit visits a f) b g) c h b (here_with (with_visit visits a f) b g)

    has_third : is_visited three c ≡ true
    has_third = here_with (with_visit (with_visit visits a f) b g) c h

    has_only : (m : ℕ) → is_visited three m ≡ true → (is_visited visits m ≡ true) ⊎ ((m ≡ a) ⊎ ((m ≡ b) ⊎ (m ≡ c)))
    has_only m k = elim (from_with (with_visit (with_visit visits a f) b g) c h m k) [
      | inl two ↦ elim (from_with (with_visit visits a f) b g m two) [
        | inl one ↦ elim (from_with visits a f m one) [ inl old ↦ inl old | inr is ↦ inr (inl is) ]
        | inr is ↦ inr (inr (inl is))
      ]
      | inr is ↦ inr (inr (inr is))
    ]

  pub step_is : IsStep (with_step places visits e)
  step_is = by (is_reached places visits (e - 1)) (is_reached places visits (e + 1))
    where
      by : (a c : Bool) → IsStep (cond a (with_way visits (e - 1) e (e + 1))
          (cond c (with_way visits (e + 1) e (e - 1)) (with_visit (with_visit (with_visit visits e e) (e - 1) e) (e + 1) e)))
      by true c = record {
        old = has_old (e - 1) (e - 1) e (e - 1) (e + 1) (e - 1);
        left = has_first (e - 1) (e - 1) e (e - 1) (e + 1) (e - 1);
        edge = has_second (e - 1) (e - 1) e (e - 1) (e + 1) (e - 1);
        right = has_third (e - 1) (e - 1) e (e - 1) (e + 1) (e - 1);
        only = has_only (e - 1) (e - 1) e (e - 1) (e + 1) (e - 1);
      }
      by false true = record {
        old = has_old (e + 1) (e + 1) e (e + 1) (e - 1) (e + 1);
        left = has_third (e + 1) (e + 1) e (e + 1) (e - 1) (e + 1);
        edge = has_second (e + 1) (e + 1) e (e + 1) (e - 1) (e + 1);
        right = has_first (e + 1) (e + 1) e (e + 1) (e - 1) (e + 1);
        only = λ m k. elim (has_only (e + 1) (e + 1) e (e + 1) (e - 1) (e + 1) m k) [
          | inl old ↦ inl old
          | inr new ↦ elim new [ inl is ↦ inr (inr (inr is)) | inr rest ↦ elim rest [ inl is ↦ inr (inr (inl is)) | inr is ↦ inr (inl is) ] ]
        ];
      }
      by false false = record {
        old = has_old e e (e - 1) e (e + 1) e;
        left = has_second e e (e - 1) e (e + 1) e;
        edge = has_first e e (e - 1) e (e + 1) e;
        right = has_third e e (e - 1) e (e + 1) e;
        only = λ m k. elim (has_only e e (e - 1) e (e + 1) e m k) [
          | inl old ↦ inl old
          | inr new ↦ elim new [ inl is ↦ inr (inr (inl is)) | inr rest ↦ elim rest [ inl is ↦ inr (inl is) | inr is ↦ inr (inr (inr is)) ] ]
        ];
      }

-- ---- the visits of places that pass a test

module _ (places : List Occurrence) (test : List Visit → ℕ → Bool) (visits : List Visit) where
  pub own_old : (P : Visit → Bool) (n : ℕ) → list_any P visits ≡ true → list_any P (with_own places test visits n) ≡ true
  own_old P zero h = h
  own_old P (suc n) h = by (test (with_own places test visits n) n) (own_old P n h)
    where
      by : (b : Bool) → list_any P (with_own places test visits n) ≡ true →
          list_any P (cond b (with_visit (with_own places test visits n) n n) (with_own places test visits n)) ≡ true
      by true before = some_stays P (with_own places test visits n) n n before
      by false before = before

  -- what some visit passes, one of those before does, or the visit of a place that passes the test
  pub own_some : (P : Visit → Bool) (Q : Type 0) (count : ℕ) → (list_any P visits ≡ true → Q) →
      ((n : ℕ) → n < count → test (with_own places test visits n) n ≡ true → P (record { place = n; from = n }) ≡ true → Q) → (n : ℕ) → n ≤ count →
      list_any P (with_own places test visits n) ≡ true → Q
  own_some P Q count old new zero le h = old h
  own_some P Q count old new (suc n) le h =
      by (test (with_own places test visits n) n) refl h (own_some P Q count old new n (omega (arith, le)))
    where
      by : (b : Bool) → test (with_own places test visits n) n ≡ b →
          list_any P (cond b (with_visit (with_own places test visits n) n n) (with_own places test visits n)) ≡ true →
          (list_any P (with_own places test visits n) ≡ true → Q) → Q
      by true passes h before =
          elim (some_with P (with_own places test visits n) n n h) [ inl e ↦ before e | inr e ↦ new n (omega (arith, le)) passes e ]
      by false passes h before = before h

  -- a place that passes the test when its turn comes is visited
  pub own_here : (n m : ℕ) → m < n → test (with_own places test visits m) m ≡ true → is_visited (with_own places test visits n) m ≡ true
  own_here zero m lt passes = absurd (omega (arith, lt))
  own_here (suc n) m lt passes = elim (cases_lt m n) [
    | inl less ↦ by (test (with_own places test visits n) n) (own_here n m less passes)
    | inr le ↦
        let same : m ≡ n = omega (arith, lt, le) in
        ap (λ k. is_visited (cond (test (with_own places test visits n) n) (with_visit (with_own places test visits n) n n) (with_own places test visits n)) k) same
        ∙ ap (λ b. is_visited (cond b (with_visit (with_own places test visits n) n n) (with_own places test visits n)) n)
        (ap (λ k. test (with_own places test visits k) k) (sym same) ∙ passes)
        ∙ here_with (with_own places test visits n) n n
  ]
    where
      by : (b : Bool) → is_visited (with_own places test visits n) m ≡ true →
          is_visited (cond b (with_visit (with_own places test visits n) n n) (with_own places test visits n)) m ≡ true
      by true before = stays_with (with_own places test visits n) n n m before
      by false before = before

-- paths of one place reach nothing new
pub reach_same : (places : List Occurrence) (visits : List Visit) (n m : ℕ) → is_reached places (with_own places (is_alone places) visits n) m ≡ true →
    is_reached places visits m ≡ true
reach_same places visits zero m h = h
reach_same places visits (suc n) m h = by (is_alone places (with_own places (is_alone places) visits n) n) refl h (reach_same places visits n)
  where
    same_var : var_at places n ≡ var_at places m → is_reached places visits n ≡ true → is_reached places visits m ≡ true
    same_var e k = ap (λ v. eqb v 0 || list_any (λ (visit : Visit). eqb (var_at places visit.place) v) visits) (sym e) ∙ k

    by : (b : Bool) → is_alone places (with_own places (is_alone places) visits n) n ≡ b →
        is_reached places (cond b (with_visit (with_own places (is_alone places) visits n) n n) (with_own places (is_alone places) visits n)) m ≡ true →
        ((k : ℕ) → is_reached places (with_own places (is_alone places) visits n) k ≡ true → is_reached places visits k ≡ true) → is_reached places visits m ≡ true
    by false alone h before = before m h
    by true alone h before =
        elim (or_cases (eqb (var_at places m) 0) _ h) [
          | inl is_x ↦ or_left (eqb (var_at places m) 0) _ is_x
          | inr some ↦ elim (some_with (λ (visit : Visit). eqb (var_at places visit.place) (var_at places m)) (with_own places (is_alone places) visits n) n n some) [
            | inl old ↦ before m (or_right (eqb (var_at places m) 0) _ old)
            | inr new ↦
                same_var (eqb-true (var_at places n) (var_at places m) new)
                (before n (and_parts _ (is_reached places (with_own places (is_alone places) visits n) n) alone).1)
          ]
        ]
