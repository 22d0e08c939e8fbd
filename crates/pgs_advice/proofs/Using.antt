-- A walk over types, each before those that it names, finds exactly those to which the first ones lead.
use Rattle.std.proofs.Common.{◌≡◌, ◌⊎◌, inl, inr, ℕ, zero, suc, ◌+◌, ◌<◌, ◌≤◌, Bool, true, false, ◌||◌, ◌==◌, List, [], ◌∷◌, ◌++◌, length, map, refl, sym, ap, subst, ◌∙◌, ⊎_elim, true≢false, arith}
use Rattle.std.specs.List.{list_any, fold}
use Rattle.std.proofs.lemmas.Bool.{or_cases, or_left, or_right, eqb-true, eq-eqb, cases_Bool, cond-true, cond-false}
use Rattle.std.proofs.lemmas.List.Folds.{list_any-append}
use Rattle.pgs_syntax.specs.declared.resolved.Resolved.{Resolved}
use Rattle.pgs_syntax.specs.declared.resolved.TypeNo.{TypeNo}
use Rattle.pgs_syntax.specs.declared.resolved.TypeNo.TheVariants.{Node, Edge}
use Rattle.pgs_advice.specs.Used.{named_by, is_same_type, is_among, LeadTo, first, named, numbers_below, with_named}

pub same_is : (a b : TypeNo) → is_same_type a b ≡ true → a ≡ b
same_is (Node a) (Node b) h = ap Node (eqb-true a b h)
same_is (Node a) (Edge b) h = absurd (true≢false (sym h))
same_is (Edge a) (Node b) h = absurd (true≢false (sym h))
same_is (Edge a) (Edge b) h = ap Edge (eqb-true a b h)

pub same_self : (a : TypeNo) → is_same_type a a ≡ true
same_self (Node a) = eq-eqb a a refl
same_self (Edge a) = eq-eqb a a refl

-- ---- among two lists

pub among_both : (t : TypeNo) (xs ys : List TypeNo) → is_among t (xs ++ ys) ≡ true → (is_among t xs ≡ true) ⊎ (is_among t ys ≡ true)
among_both t xs ys h = or_cases _ _ (sym (list_any-append (is_same_type t) xs ys) ∙ h)

pub among_first : (t : TypeNo) (xs ys : List TypeNo) → is_among t xs ≡ true → is_among t (xs ++ ys) ≡ true
among_first t xs ys h = list_any-append (is_same_type t) xs ys ∙ or_left _ _ h

pub among_second : (t : TypeNo) (xs ys : List TypeNo) → is_among t ys ≡ true → is_among t (xs ++ ys) ≡ true
among_second t xs ys h = list_any-append (is_same_type t) xs ys ∙ or_right _ _ h

-- ---- types of one kind, last first

last_or_below : (m n : ℕ) → m < suc n → (m ≡ n) ⊎ (m < n)
last_or_below m n h = grind arith

module _ (kind : ℕ → TypeNo) where
  pub number_of : (n : ℕ) (z : TypeNo) → is_among z (map kind (numbers_below n)) ≡ true → (m : ℕ) × (z ≡ kind m) × (m < n)
  number_of zero z h = absurd (true≢false (sym h))
  number_of (suc n) z h =
      ⊎_elim (λ here. (n, same_is z (kind n) here, omega arith)) (λ later. let found = number_of n z later in let less = found.2 in (found.0, found.1, omega (arith, less))) (or_cases _ _ h)

  pub is_below : (n m : ℕ) → m < n → is_among (kind m) (map kind (numbers_below n)) ≡ true
  is_below zero m h = absurd (omega arith)
  is_below (suc n) m h =
      ⊎_elim (λ (same : m ≡ n). or_left _ _ (ap (λ k. is_same_type (kind m) (kind k)) (sym same) ∙ same_self (kind m))) (λ less. or_right _ _ (is_below n m less)) (last_or_below m n h)

-- ---- the walk

module _ (resolved : Resolved) (rank : TypeNo → ℕ) (lower : (x t : TypeNo) → is_among t (named_by resolved x) ≡ true → rank t < rank x) where
  abbrev after : List TypeNo → List TypeNo → List TypeNo
  after used order = fold (with_named resolved) used order

  grows : (used : List TypeNo) (x : TypeNo) → is_among x used ≡ true → with_named resolved used x ≡ used ++ named_by resolved x
  grows used x h = cond-true (is_among x used) (used ++ named_by resolved x) used h

  stays : (used : List TypeNo) (x : TypeNo) → is_among x used ≡ false → with_named resolved used x ≡ used
  stays used x h = cond-false (is_among x used) (used ++ named_by resolved x) used h

  kept_one : (t x : TypeNo) (used : List TypeNo) → is_among t used ≡ true → is_among t (with_named resolved used x) ≡ true
  kept_one t x used h =
      ⊎_elim (λ yes. ap (is_among t) (grows used x yes) ∙ among_first t used (named_by resolved x) h) (λ no. ap (is_among t) (stays used x no) ∙ h) (cases_Bool (is_among x used))

  kept : (t : TypeNo) (used order : List TypeNo) → is_among t used ≡ true → is_among t (after used order) ≡ true
  kept t used [] h = h
  kept t used (x ∷ order) h = kept t (with_named resolved used x) order (kept_one t x used h)

  new_one : (t x : TypeNo) (used : List TypeNo) → is_among t (with_named resolved used x) ≡ true → (is_among t used ≡ true) ⊎ ((is_among x used ≡ true) × (is_among t (named_by resolved x) ≡ true))
  new_one t x used h =
      ⊎_elim
      (λ yes. ⊎_elim (λ old. inl old) (λ more. inr (yes, more)) (among_both t used (named_by resolved x) (sym (ap (is_among t) (grows used x yes)) ∙ h)))
      (λ no. inl (sym (ap (is_among t) (stays used x no)) ∙ h))
      (cases_Bool (is_among x used))

  pub sound : (types order used : List TypeNo) → ((t : TypeNo) → is_among t used ≡ true → LeadTo resolved types t) → (t : TypeNo) → is_among t (after used order) ≡ true
      → LeadTo resolved types t
  sound types [] used all t h = all t h
  sound types (x ∷ order) used all t h =
      sound types order (with_named resolved used x) (λ s is. ⊎_elim (λ old. all s old) (λ more. named x s (all x more.0) more.1) (new_one s x used is)) t h

  -- what isn't below those that are still to come was there before
  late : (order used : List TypeNo) (r : ℕ) (t : TypeNo) → r ≤ rank t → ((z : TypeNo) → is_among z order ≡ true → rank z < r) → is_among t (after used order) ≡ true → is_among t used ≡ true
  late [] used r t above below h = h
  late (x ∷ order) used r t above below h =
      ⊎_elim (λ old. old) (λ more. let less = lower x t more.1 in let own = below x (or_left _ _ (same_self x)) in absurd (omega (arith, less, own)))
      (new_one t x used (late order (with_named resolved used x) r t above (λ z is. below z (or_right _ _ is)) h))

  -- each is before those of a lower rank
  abbrev pub Descends : List TypeNo → Type 0
  Descends [] = Unit {0}
  Descends (x ∷ order) = ((z : TypeNo) → is_among z order ≡ true → rank z < rank x) × Descends order

  closed : (order used : List TypeNo) → Descends order → (x t : TypeNo) → is_among x order ≡ true → is_among t (named_by resolved x) ≡ true → is_among x (after used order) ≡ true
      → is_among t (after used order) ≡ true
  closed [] used descends x t h names found = absurd (true≢false (sym h))
  closed (y ∷ order) used descends x t h names found =
      ⊎_elim (λ here. at_first (same_is x y here)) (λ later. closed order (with_named resolved used y) descends.1 x t later names found) (or_cases _ _ h)
    where
      at_first : x ≡ y → is_among t (after used (y ∷ order)) ≡ true
      at_first same =
          let own : is_among y (after (with_named resolved used y) order) ≡ true = subst (λ (z : TypeNo). is_among z (after (with_named resolved used y) order) ≡ true) same found in
          let before = late order (with_named resolved used y) (rank y) y (omega arith) descends.0 own in
          ⊎_elim
          (λ old. kept t (with_named resolved used y) order (ap (is_among t) (grows used y old) ∙ among_second t used (named_by resolved y) (subst (λ (z : TypeNo). is_among t (named_by resolved z) ≡ true) same names)))
          (λ more. let less = lower y y more.1 in absurd (omega (arith, less))) (new_one y y used before)

  pub whole : (types order used : List TypeNo) → Descends order → ((t : TypeNo) → LeadTo resolved types t → is_among t order ≡ true) → ((t : TypeNo) → is_among t types ≡ true → is_among t used ≡ true)
      → (t : TypeNo) → LeadTo resolved types t → is_among t (after used order) ≡ true
  whole types order used descends all begins _ (first t h) = kept t used order (begins t h)
  whole types order used descends all begins _ (named by t is names) = closed order used descends by t (all by is) names (whole types order used descends all begins by is)
