-- Numbers of variables put behind others, each once.
use Rattle.std.proofs.Common.{true≢false, ◌≡◌, ℕ, zero, suc, ◌+◌, ◌<◌, ◌≤◌, Bool, true, false, not, cond, ◌||◌, ◌⊎◌, inl, inr, List, [], ◌∷◌, ◌++◌, length, map, filter, get_or, Option, Some, None, refl, sym, ◌∙◌, ap, arith, eqb}
use Rattle.std.specs.List.{list_any, fold, position}
use Rattle.std.specs.Option.{unwrap_or, is_some}
use Rattle.std.proofs.lemmas.Bool.{or_left, or_right, or_cases, or_parts, both_ways, eqb-true, eqb-false, eq-eqb}
use Rattle.std.proofs.lemmas.List.Folds.{list_any-append}
use Rattle.std.proofs.lemmas.List.Quantifiers.{position-Some}
use Rattle.pgs_syntax.specs.Valid.{is_edge_var, edge_count}
use Rattle.pgs_resolve_declared.proofs.Same.{some_place}
use Rattle.pgs_key_causes.specs.Fronts.{with_var, new_number}

abbrev pub is_in : ℕ → List ℕ → Bool
is_in v vars = list_any (λ other. eqb other v) vars

-- ---- one more

module _ (P : List ℕ → Type 0) where
  with_cases : (vars : List ℕ) (v : ℕ) → P vars → (is_in v vars ≡ false → P (vars ++ v ∷ [])) → P (with_var vars v)
  with_cases vars v old new = by (is_in v vars) refl
    where
      by : (b : Bool) → is_in v vars ≡ b → P (cond b vars (vars ++ v ∷ []))
      by true e = old
      by false e = new e

in_left : (v : ℕ) (xs ys : List ℕ) → is_in v xs ≡ true → is_in v (xs ++ ys) ≡ true
in_left v xs ys h = list_any-append (λ other. eqb other v) xs ys ∙ or_left (is_in v xs) _ h

in_right : (v : ℕ) (xs ys : List ℕ) → is_in v ys ≡ true → is_in v (xs ++ ys) ≡ true
in_right v xs ys h = list_any-append (λ other. eqb other v) xs ys ∙ or_right (is_in v xs) _ h

in_itself : (v : ℕ) (vs : List ℕ) → is_in v (v ∷ vs) ≡ true
in_itself v vs = or_left (eqb v v) _ (eq-eqb v v refl)

in_either : (v : ℕ) (xs ys : List ℕ) → is_in v (xs ++ ys) ≡ true → (is_in v xs ≡ true) ⊎ (is_in v ys ≡ true)
in_either v xs ys h = or_cases (is_in v xs) (is_in v ys) (sym (list_any-append (λ other. eqb other v) xs ys) ∙ h)

in_alone : (v w : ℕ) → is_in v (w ∷ []) ≡ true → v ≡ w
in_alone v w h = elim (or_cases (eqb w v) false h) [ inl e ↦ sym (eqb-true w v e) | inr e ↦ absurd (true≢false (sym e)) ]

kept_one : (v : ℕ) (vars : List ℕ) (w : ℕ) → is_in v vars ≡ true → is_in v (with_var vars w) ≡ true
kept_one v vars w h = with_cases (λ after. is_in v after ≡ true) vars w h (λ new. in_left v vars (w ∷ []) h)

there_one : (vars : List ℕ) (w : ℕ) → is_in w (with_var vars w) ≡ true
there_one vars w = by (is_in w vars) refl
  where
    by : (b : Bool) → is_in w vars ≡ b → is_in w (cond b vars (vars ++ w ∷ [])) ≡ true
    by true e = e
    by false e = in_right w vars (w ∷ []) (in_itself w [])

from_one : (v : ℕ) (vars : List ℕ) (w : ℕ) → is_in v (with_var vars w) ≡ true → (is_in v vars ≡ true) ⊎ (v ≡ w)
from_one v vars w =
    with_cases (λ after. is_in v after ≡ true → (is_in v vars ≡ true) ⊎ (v ≡ w)) vars w inl
    (λ new h. elim (in_either v vars (w ∷ []) h) [ inl i ↦ inl i | inr i ↦ inr (in_alone v w i) ])

-- ---- several more

pub kept_all : (v : ℕ) (vars ws : List ℕ) → is_in v vars ≡ true → is_in v (fold with_var vars ws) ≡ true
kept_all v vars [] h = h
kept_all v vars (w ∷ ws) h = kept_all v (with_var vars w) ws (kept_one v vars w h)

pub there_all : (v : ℕ) (vars ws : List ℕ) → is_in v ws ≡ true → is_in v (fold with_var vars ws) ≡ true
there_all v vars [] h = absurd (true≢false (sym h))
there_all v vars (w ∷ ws) h = elim (or_cases (eqb w v) (is_in v ws) h) [
  | inl e ↦ kept_all v (with_var vars w) ws (ap (λ u. is_in u (with_var vars w)) (sym (eqb-true w v e)) ∙ there_one vars w)
  | inr i ↦ there_all v (with_var vars w) ws i
]

pub from_all : (v : ℕ) (vars ws : List ℕ) → is_in v (fold with_var vars ws) ≡ true → (is_in v vars ≡ true) ⊎ (is_in v ws ≡ true)
from_all v vars [] h = inl h
from_all v vars (w ∷ ws) h = elim (from_all v (with_var vars w) ws h) [
  | inl i ↦ elim (from_one v vars w i) [ inl j ↦ inl j | inr e ↦ inr (or_left (eqb w v) _ (eq-eqb w v (sym e))) ]
  | inr i ↦ inr (or_right (eqb w v) _ i)
]

-- ---- each once

abbrev pub Distinct : List ℕ → Type 0
Distinct [] = Unit {0}
Distinct (v ∷ vs) = (is_in v vs ≡ false) × Distinct vs

distinct_push : (vars : List ℕ) (v : ℕ) → Distinct vars → is_in v vars ≡ false → Distinct (vars ++ v ∷ [])
distinct_push [] v d new = (refl, tt)
distinct_push (w ∷ ws) v d new =
    let parts = or_parts (eqb w v) (is_in v ws) new in (
      list_any-append (λ other. eqb other w) ws (v ∷ []) ∙ none (is_in w ws) d.0 (eqb v w) (turned v w parts.0),
      distinct_push ws v d.1 parts.1,
    )
  where
    turned : (a b : ℕ) → eqb b a ≡ false → eqb a b ≡ false
    turned a b e = by (eqb a b) refl
      where
        by : (t : Bool) → eqb a b ≡ t → t ≡ false
        by false f = refl
        by true f = absurd (eqb-false b a e (sym (eqb-true a b f)))

    none : (a : Bool) → a ≡ false → (b : Bool) → b ≡ false → (a || (b || false)) ≡ false
    none a p b q = cc

pub distinct_all : (vars ws : List ℕ) → Distinct vars → Distinct (fold with_var vars ws)
distinct_all vars [] d = d
distinct_all vars (w ∷ ws) d = distinct_all (with_var vars w) ws (with_cases Distinct vars w d (distinct_push vars w d))

-- ---- numbers

pub number_at : (vars : List ℕ) (v : ℕ) → is_in v vars ≡ true → (new_number vars v < length vars) × (get_or vars (new_number vars v) 0 ≡ v)
number_at vars v there = by (position (λ other. eqb other v) vars) refl (some_place (λ other. eqb other v) vars ∙ there)
  where
    by : (o : Option ℕ) → position (λ other. eqb other v) vars ≡ o → is_some o ≡ true → (unwrap_or o 0 < length vars) × (get_or vars (unwrap_or o 0) 0 ≡ v)
    by None e h = cc
    by (Some n) e h =
        let at = position-Some (λ other. eqb other v) vars n 0 e in
        (at.0, eqb-true (get_or vars n 0) v at.1)

in_at : (vars : List ℕ) (k : ℕ) → k < length vars → is_in (get_or vars k 0) vars ≡ true
in_at [] k lt = absurd (omega (arith, lt))
in_at (v ∷ vs) zero lt = in_itself v vs
in_at (v ∷ vs) (suc k) lt = or_right (eqb v (get_or vs k 0)) _ (in_at vs k (omega (arith, lt)))

-- two places of one variable are one
one_place : (vars : List ℕ) → Distinct vars → (i j : ℕ) → i < length vars → j < length vars → get_or vars i 0 ≡ get_or vars j 0 → i ≡ j
one_place [] d i j a b e = absurd (omega (arith, a))
one_place (v ∷ vs) d zero zero a b e = refl
one_place (v ∷ vs) d zero (suc j) a b e =
    absurd (both_ways (is_in v vs) d.0 (ap (λ u. is_in u vs) e ∙ in_at vs j (omega (arith, b))))
one_place (v ∷ vs) d (suc i) zero a b e =
    absurd (both_ways (is_in v vs) d.0 (ap (λ u. is_in u vs) (sym e) ∙ in_at vs i (omega (arith, a))))
one_place (v ∷ vs) d (suc i) (suc j) a b e = ap suc (one_place vs d.1 i j (omega (arith, a)) (omega (arith, b)) e)

pub own_number : (vars : List ℕ) (k : ℕ) → Distinct vars → k < length vars → new_number vars (get_or vars k 0) ≡ k
own_number vars k d lt =
    let at = number_at vars (get_or vars k 0) (in_at vars k lt) in
    one_place vars d (new_number vars (get_or vars k 0)) k at.0 lt at.1

pub known_at : (vars : List ℕ) (k : ℕ) → k < length vars → is_in (get_or vars k 0) vars ≡ true
known_at = in_at

-- ---- how many there are

abbrev AllBelow : ℕ → List ℕ → Type 0
AllBelow n [] = Unit {0}
AllBelow n (v ∷ vs) = (v < n) × AllBelow n vs

abbrev others : ℕ → List ℕ → List ℕ
others n vs = filter (λ v. not (eqb v n)) vs

others_new : (n v : ℕ) (vs : List ℕ) → is_in v vs ≡ false → is_in v (others n vs) ≡ false
others_new n v [] h = refl
others_new n v (w ∷ ws) h =
    let parts = or_parts (eqb w v) (is_in v ws) h in
    by (not (eqb w n)) parts.0 (others_new n v ws parts.1)
  where
    by : (b : Bool) → eqb w v ≡ false → is_in v (others n ws) ≡ false → is_in v (cond b (w ∷ others n ws) (others n ws)) ≡ false
    by true e rest = cc
    by false e rest = rest

others_distinct : (n : ℕ) (vs : List ℕ) → Distinct vs → Distinct (others n vs)
others_distinct n [] d = tt
others_distinct n (v ∷ vs) d = by (not (eqb v n)) (others_new n v vs d.0) (others_distinct n vs d.1)
  where
    by : (b : Bool) → is_in v (others n vs) ≡ false → Distinct (others n vs) → Distinct (cond b (v ∷ others n vs) (others n vs))
    by true new rest = (new, rest)
    by false new rest = rest

others_below : (n : ℕ) (vs : List ℕ) → AllBelow (suc n) vs → AllBelow n (others n vs)
others_below n [] h = tt
others_below n (v ∷ vs) h = by (eqb v n) refl (others_below n vs h.1)
  where
    by : (b : Bool) → eqb v n ≡ b → AllBelow n (others n vs) → AllBelow n (cond (not b) (v ∷ others n vs) (others n vs))
    by true e rest = rest
    by false e rest = (less (eqb-false v n e) h.0, rest)
      where
        less : (v ≡ n → ⊥) → v < suc n → v < n
        less apart lt = omega (arith, lt, apart)

same_others : (n : ℕ) (vs : List ℕ) → is_in n vs ≡ false → others n vs ≡ vs
same_others n [] h = refl
same_others n (v ∷ vs) h =
    let parts = or_parts (eqb v n) (is_in n vs) h in
    ap (λ b. cond (not b) (v ∷ others n vs) (others n vs)) parts.0 ∙ ap (λ rest. v ∷ rest) (same_others n vs parts.1)

module _ (weight : ℕ → ℕ) where
  abbrev total : List ℕ → ℕ
  total [] = 0
  total (v ∷ vs) = weight v + total vs

  abbrev upto : ℕ → ℕ
  upto zero = 0
  upto (suc n) = upto n + weight n

  total_but_one : (n : ℕ) (vs : List ℕ) → Distinct vs → total vs ≤ total (others n vs) + weight n
  total_but_one n [] d = omega arith
  total_but_one n (v ∷ vs) d = by (eqb v n) refl (total_but_one n vs d.1)
    where
      by : (b : Bool) → eqb v n ≡ b → total vs ≤ total (others n vs) + weight n →
          weight v + total vs ≤ total (cond (not b) (v ∷ others n vs) (others n vs)) + weight n
      by true e rest =
          let is : v ≡ n = eqb-true v n e in
          let same = ap total (same_others n vs (ap (λ u. is_in u vs) (sym is) ∙ d.0)) in
          let w = ap weight is in
          omega (arith, same, w)
      by false e rest = omega (arith, rest)

  total_upto : (n : ℕ) (vs : List ℕ) → Distinct vs → AllBelow n vs → total vs ≤ upto n
  total_upto zero [] d below = omega arith
  total_upto zero (v ∷ vs) d below = absurd (omega (arith, below.0))
  total_upto (suc n) vs d below =
      let one = total_but_one n vs d in
      let rest = total_upto n (others n vs) (others_distinct n vs d) (others_below n vs below) in
      omega (arith, one, rest)

ones : (vs : List ℕ) → total (λ v. 1) vs ≡ length vs
ones [] = refl
ones (v ∷ vs) = let h = ones vs in omega (arith, h)

ones_upto : (n : ℕ) → upto (λ v. 1) n ≡ n
ones_upto zero = refl
ones_upto (suc n) = let h = ones_upto n in omega (arith, h)

abbrev edge_weight : List Bool → ℕ → ℕ
edge_weight edge_vars v = cond (is_edge_var edge_vars v) 1 0

upto_shift : (weight : ℕ → ℕ) (n : ℕ) → upto weight (suc n) ≡ weight 0 + upto (λ v. weight (suc v)) n
upto_shift weight zero = omega arith
upto_shift weight (suc n) = let h = upto_shift weight n in omega (arith, h)

edges_upto : (edge_vars : List Bool) → upto (edge_weight edge_vars) (length edge_vars) ≡ edge_count edge_vars
edges_upto [] = refl
edges_upto (b ∷ rest) =
    let shift = upto_shift (edge_weight (b ∷ rest)) (length rest) in
    let h = edges_upto rest in
    omega (arith, shift, h)

edges_total : (edge_vars : List Bool) (vs : List ℕ) → total (edge_weight edge_vars) vs ≡ edge_count (map (is_edge_var edge_vars) vs)
edges_total edge_vars [] = refl
edges_total edge_vars (v ∷ vs) = ap (λ n. edge_weight edge_vars v + n) (edges_total edge_vars vs)

all_below : (n : ℕ) (vs : List ℕ) → ((v : ℕ) → is_in v vs ≡ true → v < n) → AllBelow n vs
all_below n [] h = tt
all_below n (v ∷ vs) h = (h v (in_itself v vs), all_below n vs (λ w i. h w (or_right (eqb v w) _ i)))

-- variables of a pattern, each once, are no more than it has, and no more of them are edges
pub few : (edge_vars : List Bool) (vs : List ℕ) → Distinct vs → ((v : ℕ) → is_in v vs ≡ true → v < length edge_vars) →
    (length vs ≤ length edge_vars) × (edge_count (map (is_edge_var edge_vars) vs) ≤ edge_count edge_vars)
few edge_vars vs d within =
    let below = all_below (length edge_vars) vs within in
    let a = total_upto (λ v. 1) (length edge_vars) vs d below in
    let b = ones vs in
    let c = ones_upto (length edge_vars) in
    let e = total_upto (edge_weight edge_vars) (length edge_vars) vs d below in
    let f = edges_total edge_vars vs in
    let g = edges_upto edge_vars in
    (omega (arith, a, b, c), omega (arith, e, f, g))
