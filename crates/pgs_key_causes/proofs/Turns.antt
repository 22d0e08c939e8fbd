-- The turns of the loops that make a walk.
use Rattle.std.proofs.Common.{◌≡◌, ℕ, zero, suc, ◌+◌, ◌-◌, ◌<◌, ◌≤◌, Bool, true, false, cond, List, [], ◌∷◌, length, map, drop, Some, None, refl, sym, ◌∙◌, ap, arith}
use Rattle.std.specs.List.{find, enumerate_from}
use Rattle.std.specs.Option.{option_map_or}
use Rattle.pgs_key_causes.specs.declared.walk.Occurrence.{Occurrence}
use Rattle.pgs_key_causes.specs.declared.walk.Visit.{Visit}
use Rattle.pgs_key_causes.specs.Walk.{with_visit, with_own, with_all, numbers, is_alone, is_next, with_step, walk_on}

module _ (places : List Occurrence) where
  -- one place more of those that pass a test
  pub own_more : (test : List Visit → ℕ → Bool) (visits : List Visit) (n : ℕ) (before new : List Visit) (passes : Bool) → before ≡ with_own places test visits n →
      passes ≡ test before n → new ≡ cond passes (with_visit before n n) before → new ≡ with_own places test visits (n + 1)
  own_more test visits n before new passes is same after =
      let next : n + 1 ≡ suc n = omega arith in
      after ∙ ap (λ b. cond b (with_visit before n n) before) same
      ∙ ap (λ (old : List Visit). cond (test old n) (with_visit old n n) old) is ∙ ap (with_own places test visits) (sym next)

  -- the numbers from a place on
  numbers_from : (xs : List Occurrence) (first i : ℕ) → i < length xs →
      drop i (map (λ (place : ℕ × Occurrence). place.0) (enumerate_from first xs)) ≡ (first + i) ∷ drop (i + 1) (map (λ (place : ℕ × Occurrence). place.0) (enumerate_from first xs))
  numbers_from [] first i lt = absurd (omega (arith, lt))
  numbers_from (x ∷ xs) first zero lt =
      let zero_more : first ≡ first + 0 = omega arith in
      ap (λ n. n ∷ map (λ (place : ℕ × Occurrence). place.0) (enumerate_from (first + 1) xs)) zero_more
  numbers_from (x ∷ xs) first (suc i) lt =
      let further : first + 1 + i ≡ first + suc i = omega arith in
      let next : suc i + 1 ≡ suc (i + 1) = omega arith in
      numbers_from xs (first + 1) i (omega (arith, lt))
      ∙ ap (λ n. n ∷ drop (i + 1) (map (λ (place : ℕ × Occurrence). place.0) (enumerate_from (first + 1) xs))) further
      ∙ ap (λ k. (first + suc i) ∷ drop k (map (λ (place : ℕ × Occurrence). place.0) (enumerate_from first (x ∷ xs)))) (sym next)

  none_from : (xs : List Occurrence) (first i : ℕ) → length xs ≤ i → drop i (map (λ (place : ℕ × Occurrence). place.0) (enumerate_from first xs)) ≡ []
  none_from [] first zero le = refl
  none_from [] first (suc i) le = refl
  none_from (x ∷ xs) first zero le = absurd (omega (arith, le))
  none_from (x ∷ xs) first (suc i) le = none_from xs (first + 1) i (omega (arith, le))

  -- the first of them that passes a test
  module _ (test : ℕ → Bool) (i : ℕ) (lt : i < length places) where
    split : drop i (numbers places) ≡ i ∷ drop (i + 1) (numbers places)
    split =
        let zero_more : 0 + i ≡ i = omega arith in
        numbers_from places 0 i lt ∙ ap (λ n. n ∷ drop (i + 1) (numbers places)) zero_more

    pub found_here : test i ≡ true → find test (drop i (numbers places)) ≡ Some i
    found_here e = ap (find test) split ∙ ap (λ b. cond b (Some i) (find test (drop (i + 1) (numbers places)))) e

    pub found_later : test i ≡ false → find test (drop i (numbers places)) ≡ find test (drop (i + 1) (numbers places))
    found_later e = ap (find test) split ∙ ap (λ b. cond b (Some i) (find test (drop (i + 1) (numbers places)))) e

  pub found_none : (test : ℕ → Bool) (i : ℕ) → length places ≤ i → find test (drop i (numbers places)) ≡ None
  found_none test i le = ap (find test) (none_from places 0 i le)

  -- a turn
  pub one_turn : (left e : ℕ) (visits new : List Visit) → 0 < left → find (is_next places visits) (numbers places) ≡ Some e →
      new ≡ with_all places (is_alone places) (with_step places visits e) → walk_on places (left - 1) new ≡ walk_on places left visits
  one_turn zero e visits new some found is = absurd (omega (arith, some))
  one_turn (suc left) e visits new some found is =
      let one_less : suc left - 1 ≡ left = omega arith in
      ap (λ n. walk_on places n new) one_less ∙ ap (walk_on places left) is
      ∙ ap (λ o. option_map_or (λ e. walk_on places left (with_all places (is_alone places) (with_step places visits e))) o visits) (sym found)

  pub no_turn : (left : ℕ) (visits : List Visit) → find (is_next places visits) (numbers places) ≡ None → walk_on places left visits ≡ visits
  no_turn zero visits found = refl
  no_turn (suc left) visits found =
      ap (λ o. option_map_or (λ e. walk_on places left (with_all places (is_alone places) (with_step places visits e))) o visits) found
