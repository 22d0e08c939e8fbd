-- Ways as lists of names, none of which stands twice, and ways of so many steps.
use Rattle.std.proofs.Common.{◌≡◌, ℕ, zero, suc, ◌+◌, ◌-◌, ◌≤◌, Bool, true, false, ◌||◌, ⊎_elim, inl, inr, List, [], ◌∷◌, length, refl, sym, ◌∙◌, ap, subst, true≢false, arith}
use Rattle.std.specs.Prelude.{Contains}
use Rattle.std.specs.List.{list_any}
use Rattle.std.proofs.lemmas.Bool.{or_cases, or_left, or_right}
use Rattle.pgs_base.specs.Pair.{same_name, has_name}
use Rattle.pgs_syntax.proofs.Members.{contains_first, contains_cases, contains_none, kept_found, kept_given}
use Rattle.pgs_resolve_declared.specs.Refused.{leads, cyclic}
use Rattle.pgs_resolve_declared.proofs.Same.{one_name, itself}
use Rattle.pgs_resolve.specs.Ways.{LeadsTo, step, further}
use Rattle.pgs_resolve.proofs.Members.{any_given, any_found, named, Apart, few}

module _ (next : List ℕ → List (List ℕ)) where
  -- ---- a way as the list of the names on it

  abbrev Trail : List ℕ → List (List ℕ) → List ℕ → Type 0
  Trail from [] to = Contains (next from) to
  Trail from (via ∷ more) to = Contains (next from) via × Trail via more to

  -- a way without a name twice
  abbrev Straight : List ℕ → List ℕ → Type 0
  Straight from to = (more : List (List ℕ)) × Trail from more to × Apart (from ∷ more)

  -- from a name on it
  cut : (from via : List ℕ) (more : List (List ℕ)) (to : List ℕ) → Trail via more to → Apart (via ∷ more) → has_name from (via ∷ more) ≡ true → Straight from to
  cut from via [] to t a h = elim (or_cases (same_name from via) false h) [
    | inl same ↦ let Goal : List ℕ → Type 0 = λ name. Straight name to in subst Goal (sym (one_name from via same)) ([], t, a)
    | inr none ↦ absurd (true≢false (sym none))
  ]
  cut from via (v ∷ more) to t a h = elim (or_cases (same_name from via) (has_name from (v ∷ more)) h) [
    | inl same ↦ let Goal : List ℕ → Type 0 = λ name. Straight name to in subst Goal (sym (one_name from via same)) (v ∷ more, t, a)
    | inr later ↦ cut from v more to t.1 a.1 later
  ]

  straight : (from to : List ℕ) → LeadsTo next from to → Straight from to
  straight from to (step h) = ([], h, (refl, tt))
  straight from to (further {via = via} h rest) = by (straight via to rest)
    where
      by : Straight via to → Straight from to
      by s = new (has_name from (via ∷ s.0)) refl
        where
          new : (b : Bool) → has_name from (via ∷ s.0) ≡ b → Straight from to
          new true e = cut from via s.0 to s.1 s.2 e
          new false e = (via ∷ s.0, (h, s.1), (e, s.2))

  -- ---- by so many steps

  led : (from : List ℕ) (more : List (List ℕ)) (to : List ℕ) → Trail from more to → leads next (suc (length more)) from to ≡ true
  led from [] to t = any_given (λ name. same_name to name || leads next 0 name to) (next from) to t (or_left (same_name to to) _ (itself to))
  led from (via ∷ more) to t =
      any_given (λ name. same_name to name || leads next (suc (length more)) name to) (next from) via t.0
      (or_right (same_name to via) _ (led via more to t.1))

  any_more : (p q : List ℕ → Bool) → ((name : List ℕ) → p name ≡ true → q name ≡ true) → (names : List (List ℕ)) → list_any p names ≡ true →
      list_any q names ≡ true
  any_more p q each names h = let found = any_found p names h in any_given q names found.0 found.1 (each found.0 found.2)

  one_more : (steps : ℕ) (from to : List ℕ) → leads next steps from to ≡ true → leads next (suc steps) from to ≡ true
  one_more zero from to h = absurd (true≢false (sym h))
  one_more (suc steps) from to h =
      any_more (λ name. same_name to name || leads next steps name to) (λ name. same_name to name || leads next (suc steps) name to)
      (λ name e.
      ⊎_elim (λ same. or_left (same_name to name) _ same) (λ led. or_right (same_name to name) _ (one_more steps name to led))
      (or_cases (same_name to name) (leads next steps name to) e)) (next from) h

  more_steps : (more steps : ℕ) (from to : List ℕ) → leads next steps from to ≡ true → leads next (more + steps) from to ≡ true
  more_steps zero steps from to h = let same : 0 + steps ≡ steps = omega arith in ap (λ n. leads next n from to) same ∙ h
  more_steps (suc more) steps from to h =
      let same : suc more + steps ≡ suc (more + steps) = omega arith in
      ap (λ n. leads next n from to) same ∙ one_more (more + steps) from to (more_steps more steps from to h)

  at_most : (steps most : ℕ) (from to : List ℕ) → steps ≤ most → leads next steps from to ≡ true → leads next most from to ≡ true
  at_most steps most from to within h =
      let same : most ≡ (most - steps) + steps = omega arith in ap (λ n. leads next n from to) same ∙ more_steps (most - steps) steps from to h

  pub way : (steps : ℕ) (from to : List ℕ) → leads next steps from to ≡ true → LeadsTo next from to
  way zero from to h = absurd (true≢false (sym h))
  way (suc steps) from to h =
      let found = any_found (λ name. same_name to name || leads next steps name to) (next from) h in
      elim (or_cases (same_name to found.0) (leads next steps found.0 to) found.2) [
        | inl same ↦ step (subst (Contains (next from)) (sym (one_name to found.0 same)) found.1)
        | inr led ↦ further found.1 (way steps found.0 to led)
      ]

  -- ---- where only names of a list lead anywhere

  module _ (names : List (List ℕ)) (closed : (name : List ℕ) → has_name name names ≡ false → next name ≡ []) where
    leading : (from to : List ℕ) → Contains (next from) to → has_name from names ≡ true
    leading from to h = by (has_name from names) refl
      where
        by : (b : Bool) → has_name from names ≡ b → b ≡ true
        by true e = refl
        by false e = absurd (contains_none to (subst (λ (all : List (List ℕ)). Contains all to) (closed from e) h))

    all_leading : (from : List ℕ) (more : List (List ℕ)) (to : List ℕ) → Trail from more to → (name : List ℕ) → Contains (from ∷ more) name →
        has_name name names ≡ true
    all_leading from [] to t name h = elim (contains_cases from [] name h) [
      | inl same ↦ ap (λ n. has_name n names) (sym same) ∙ leading from to t
      | inr later ↦ absurd (contains_none name later)
    ]
    all_leading from (via ∷ more) to t name h = elim (contains_cases from (via ∷ more) name h) [
      | inl same ↦ ap (λ n. has_name n names) (sym same) ∙ leading from via t.0
      | inr later ↦ all_leading via more to t.1 name later
    ]

    -- a way takes no more steps than there are names
    pub short : (from to : List ℕ) → LeadsTo next from to → leads next (length names) from to ≡ true
    short from to w =
        let s = straight from to w in
        let most : length (from ∷ s.0) ≤ length names = few (from ∷ s.0) names s.2 (all_leading from s.0 to s.1) in
        at_most (suc (length s.0)) (length names) from to (omega arith) (led from s.0 to s.1)

    there : (from to : List ℕ) → LeadsTo next from to → has_name from names ≡ true
    there from to (step h) = leading from to h
    there from to (further {via = via} h rest) = leading from via h

    abbrev leads_back : List ℕ → Bool
    leads_back name = leads next (length names) name name

    pub back_from : (name : List ℕ) → Contains (cyclic next names) name → LeadsTo next name name
    back_from name h = way (length names) name name (kept_found leads_back names name h).1

    pub back_to : (name : List ℕ) → LeadsTo next name name → Contains (cyclic next names) name
    back_to name w = kept_given leads_back names name (named name names (there name name w)) (short name name w)

  -- ---- a way that goes on has to turn back

  pub after : (from via to : List ℕ) → LeadsTo next from via → Contains (next via) to → LeadsTo next from to
  after from via to (step h) i = further h (step i)
  after from via to (further {via = other} h rest) i = further h (after other via to rest i)

  module _ (names : List (List ℕ)) (goes : (name : List ℕ) → has_name name names ≡ true → (to : List ℕ) × Contains (next name) to × (has_name to names ≡ true)) where
    abbrev Back : Type 0
    Back = (name : List ℕ) × LeadsTo next name name

    turn : (left : ℕ) (before : List (List ℕ)) (at : List ℕ) → Apart (at ∷ before) → ((name : List ℕ) → Contains (at ∷ before) name → has_name name names ≡ true) →
        ((name : List ℕ) → Contains before name → LeadsTo next name at) → length names ≤ left + length before → Back
    turn zero before at apart among led short =
        let most : length (at ∷ before) ≤ length names = few (at ∷ before) names apart among in absurd (omega arith)
    turn (suc left) before at apart among led short =
        let on = goes at (among at (contains_first at before)) in
        by on.0 on.1 on.2 (has_name on.0 (at ∷ before)) refl (turn left (at ∷ before) on.0)
      where
        by : (to : List ℕ) → Contains (next at) to → has_name to names ≡ true → (b : Bool) → has_name to (at ∷ before) ≡ b →
            (Apart (to ∷ at ∷ before) → ((name : List ℕ) → Contains (to ∷ at ∷ before) name → has_name name names ≡ true) →
            ((name : List ℕ) → Contains (at ∷ before) name → LeadsTo next name to) → length names ≤ left + length (at ∷ before) → Back) → Back
        by to goes_to there true e rest = elim (contains_cases at before to (named to (at ∷ before) e)) [
          | inl same ↦ (at, subst (LeadsTo next at) (sym same) (step goes_to))
          | inr old ↦ (to, after to at to (led to old) goes_to)
        ]
        by to goes_to there false e rest =
            rest (e, apart)
            (λ name i. elim (contains_cases to (at ∷ before) name i) [
              | inl same ↦ ap (λ n. has_name n names) (sym same) ∙ there
              | inr later ↦ among name later
            ])
            (λ name i. elim (contains_cases at before name i) [
              | inl same ↦ subst (λ n. LeadsTo next n to) same (step goes_to)
              | inr later ↦ after name at to (led name later) goes_to
            ])
            (omega arith)

    -- where each of some names leads to one of them, one leads back to itself
    pub some_back : (name : List ℕ) → has_name name names ≡ true → Back
    some_back name there =
        turn (length names) [] name (refl, tt)
        (λ other i. elim (contains_cases name [] other i) [
          | inl same ↦ ap (λ n. has_name n names) (sym same) ∙ there
          | inr none ↦ absurd (contains_none other none)
        ]) (λ other i. absurd (contains_none other i)) (omega arith)
