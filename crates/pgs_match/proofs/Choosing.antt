-- The best of the steps that are possible at some edge places, and at one place more.
use Rattle.std.proofs.Common.{◌≡◌, ⊎_elim, ℕ, ◌+◌, ◌<◌, Bool, true, false, ◌&&◌, ◌||◌, ◌==◌, not, cond, List, [], ◌∷◌, ◌++◌, length, get_or, take, nat_le, Option, Some, None, refl, sym, ◌∙◌, ap, subst, true≢false, arith}
use Rattle.std.specs.List.{list_any, list_all}
use Rattle.std.proofs.lemmas.Bool.{and_parts, and_from, or_cases, or_left, or_right, eqb-true, not-true, leb-true, le-leb}
use Rattle.std.proofs.lemmas.Bool.Decides.{nat_tests}
use Rattle.std.proofs.lemmas.List.Folds.{list_any_more}
use Rattle.pgs_syntax.specs.declared.pattern.Atom.{Atom}
use Rattle.pgs_syntax.specs.declared.pattern.Atom.TheVariants.{Ends, HasLabel, FitsNode, FitsEdge, Equals}
use Rattle.pgs_match.specs.declared.step.Step.{Step}
use Rattle.pgs_match.specs.declared.step.Step.TheVariants.{Along, End}
use Rattle.pgs_match.specs.Plans.{bound_by, is_known, and_known, known_after, has_end, is_step, is_closed_at, asked_of, is_as_good, IsBest, IsBestOf, AreBest, step_at, better}
use Rattle.pgs_match.proofs.Planning.{next, first_end, first_along}

-- ---- which step is as good as which

through : (a b c : ℕ) → nat_le b a ≡ true → nat_le c b ≡ true → nat_le c a ≡ true
through a b c first second = let one = leb-true b a first in let two = leb-true c b second in le-leb c a (omega arith)

turned : (a b : ℕ) → nat_le b a ≡ false → nat_le a b ≡ true
turned a b h = grind (arith, nat_tests)

module _ (atoms : List Atom) where
  itself : (s : Step) → is_as_good atoms s s ≡ true
  itself (Along edge node forward) = le-leb (asked_of atoms edge) (asked_of atoms edge) (omega arith)
  itself (End edge node source) = le-leb (asked_of atoms node) (asked_of atoms node) (omega arith)

  one_of_two : (s t : Step) → is_as_good atoms s t ≡ false → is_as_good atoms t s ≡ true
  one_of_two (Along edge node forward) (Along other from back) h = turned (asked_of atoms edge) (asked_of atoms other) h
  one_of_two (Along edge node forward) (End other to source) h = refl
  one_of_two (End edge node source) (Along other from back) h = absurd (true≢false h)
  one_of_two (End edge node source) (End other to target) h = turned (asked_of atoms node) (asked_of atoms to) h

  as_good_as : (s t u : Step) → is_as_good atoms s t ≡ true → is_as_good atoms t u ≡ true → is_as_good atoms s u ≡ true
  as_good_as (Along a b c) (Along d e f) (Along g h i) one two = through (asked_of atoms a) (asked_of atoms d) (asked_of atoms g) one two
  as_good_as (Along a b c) (Along d e f) (End g h i) one two = absurd (true≢false (sym two))
  as_good_as (Along a b c) (End d e f) u one two = absurd (true≢false (sym one))
  as_good_as (End a b c) t (Along g h i) one two = refl
  as_good_as (End a b c) (Along d e f) (End g h i) one two = absurd (true≢false (sym two))
  as_good_as (End a b c) (End d e f) (End g h i) one two = through (asked_of atoms b) (asked_of atoms e) (asked_of atoms h) one two

-- the one step that a test tells, where there is one
abbrev pub IsOnly : (Step → Bool) → Option Step → Type 0
IsOnly test None = (s : Step) → test s ≡ false
IsOnly test (Some found) = (test found ≡ true) × ((s : Step) → test s ≡ true → s ≡ found)

-- the better of the best of some and of the only one of others is the best of both
module _ (atoms : List Atom) (among test : Step → Bool) where
  better_of : (best further : Option Step) → IsBestOf atoms among best → IsOnly test further → IsBestOf atoms (λ s. among s || test s) (better atoms best further)
  better_of None None none only = λ s i. none s i || only s i
  better_of None (Some found) none only = (
    or_right (among found) (test found) only.0,
    λ s h. ⊎_elim (λ here. absurd (true≢false (sym here ∙ none s))) (λ here. subst (λ t. is_as_good atoms found t ≡ true) (sym (only.1 s here)) (itself atoms found))
        (or_cases (among s) (test s) h),
  )
  better_of (Some best) None is only =
      (or_left (among best) (test best) is.0, λ s h. ⊎_elim (is.1 s) (λ here. absurd (true≢false (sym here ∙ only s))) (or_cases (among s) (test s) h))
  better_of (Some best) (Some found) is only = by (is_as_good atoms best found) refl
    where
      by : (b : Bool) → is_as_good atoms best found ≡ b → IsBestOf atoms (λ s. among s || test s) (cond b (Some best) (Some found))
      by true as_good = (
        or_left (among best) (test best) is.0,
        λ s h. ⊎_elim (is.1 s) (λ here. subst (λ t. is_as_good atoms best t ≡ true) (sym (only.1 s here)) as_good) (or_cases (among s) (test s) h),
      )
      by false less = (
        or_right (among found) (test found) only.0,
        λ s h. ⊎_elim (λ here. as_good_as atoms found best s (one_of_two atoms best found less) (is.1 s here))
            (λ here. subst (λ t. is_as_good atoms found t ≡ true) (sym (only.1 s here)) (itself atoms found)) (or_cases (among s) (test s) h),
      )

-- ---- the step at one end of an edge place

abbrev source_of : Step → Bool
source_of (Along edge node forward) = forward
source_of (End edge node source) = source

abbrev alike : Bool → Bool → Bool
alike true b = b
alike false b = not b

alike_is : (a b : Bool) → alike a b ≡ true → b ≡ a
alike_is true b h = h
alike_is false b h = not-true b h

alike_self : (a : Bool) → alike a a ≡ true
alike_self true = refl
alike_self false = refl

-- the possible steps there
abbrev possible : List Bool → Bool → Atom → Step → Bool
possible known source atom s = is_step (atom ∷ []) known s && alike source (source_of s)

never : (a b : Bool) → ((a && false) && b) ≡ false
never true b = refl
never false b = refl

alone : (b : Bool) → (b || false) ≡ true → b ≡ true
alone true h = refl
alone false h = h

refuted : (b : Bool) → (b ≡ true → ⊥) → b ≡ false
refuted true h = absurd (h refl)
refuted false h = refl

module _ (known : List Bool) (source : Bool) where
  module _ (edge first second : ℕ) where
    abbrev node : ℕ
    node = cond source first second

    -- what is known of a possible step
    abbrev Seen : Step → Type 0
    Seen (Along e n f) = (Along e n f ≡ Along edge node source) × (is_known known edge ≡ false) × (is_known known node ≡ true)
    Seen (End e n f) = (End e n f ≡ End edge node source) × (is_known known edge ≡ true) × (is_known known node ≡ false)

    seen_along : (e n : ℕ) (f : Bool) → edge ≡ e → cond f first second ≡ n → f ≡ source → is_known known n ≡ true → is_known known e ≡ false → Seen (Along e n f)
    seen_along e n f same_edge same_node same_end has lacks =
        let at : node ≡ n = ap (λ b. cond b first second) (sym same_end) ∙ same_node in
        ((λ i. Along (sym same_edge i) (sym at i) (same_end i)), ap (is_known known) same_edge ∙ lacks, ap (is_known known) at ∙ has)

    seen_end : (e n : ℕ) (f : Bool) → edge ≡ e → cond f first second ≡ n → f ≡ source → is_known known e ≡ true → is_known known n ≡ false → Seen (End e n f)
    seen_end e n f same_edge same_node same_end has lacks =
        let at : node ≡ n = ap (λ b. cond b first second) (sym same_end) ∙ same_node in
        ((λ i. End (sym same_edge i) (sym at i) (same_end i)), ap (is_known known) same_edge ∙ has, ap (is_known known) at ∙ lacks)

    seen : (s : Step) → possible known source (Ends edge first second) s ≡ true → Seen s
    seen (Along e n f) h =
        let parts = and_parts (is_step (Ends edge first second ∷ []) known (Along e n f)) (alike source f) h in
        let step = and_parts (is_known known n && not (is_known known e)) _ parts.0 in
        let free = and_parts (is_known known n) (not (is_known known e)) step.0 in
        let has = and_parts (edge == e) (cond f first second == n) (alone _ step.1) in
        seen_along e n f (eqb-true edge e has.0) (eqb-true (cond f first second) n has.1) (alike_is source f parts.1) free.0 (not-true _ free.1)
    seen (End e n f) h =
        let parts = and_parts (is_step (Ends edge first second ∷ []) known (End e n f)) (alike source f) h in
        let step = and_parts (is_known known e && not (is_known known n)) _ parts.0 in
        let free = and_parts (is_known known e) (not (is_known known n)) step.0 in
        let has = and_parts (edge == e) (cond f first second == n) (alone _ step.1) in
        seen_end e n f (eqb-true edge e has.0) (eqb-true (cond f first second) n has.1) (alike_is source f parts.1) free.0 (not-true _ free.1)

    apart : (b : Bool) → b ≡ true → b ≡ false → ⊥
    apart b one other = true≢false (sym one ∙ other)

    only_end : (e n : Bool) → is_known known edge ≡ e → is_known known node ≡ n →
        IsOnly (possible known source (Ends edge first second)) (cond e (cond n None (Some (End edge node source))) (cond n (Some (Along edge node source)) None))
    only_end true true has_edge has_node = λ s. refuted _ (λ h. not_there s (seen s h))
      where
        not_there : (s : Step) → Seen s → ⊥
        not_there (Along e n f) is = apart _ has_edge is.1
        not_there (End e n f) is = apart _ has_node is.2
    only_end true false has_edge lacks_node =
        (and_from _ _ (first_end [] known edge first second node source has_edge lacks_node refl) (alike_self source), λ s h. there s (seen s h))
      where
        there : (s : Step) → Seen s → s ≡ End edge node source
        there (Along e n f) is = absurd (apart _ has_edge is.1)
        there (End e n f) is = is.0
    only_end false true lacks_edge has_node =
        (and_from _ _ (first_along [] known edge first second node source has_node lacks_edge refl) (alike_self source), λ s h. there s (seen s h))
      where
        there : (s : Step) → Seen s → s ≡ Along edge node source
        there (Along e n f) is = is.0
        there (End e n f) is = absurd (apart _ is.1 lacks_edge)
    only_end false false lacks_edge lacks_node = λ s. refuted _ (λ h. not_there s (seen s h))
      where
        not_there : (s : Step) → Seen s → ⊥
        not_there (Along e n f) is = apart _ is.2 lacks_node
        not_there (End e n f) is = apart _ is.1 lacks_edge

  no_end : (atom : Atom) → ((e n : ℕ) (f : Bool) → has_end e n f atom ≡ false) → (s : Step) → possible known source atom s ≡ false
  no_end atom none (Along e n f) =
      ap (λ b. ((is_known known n && not (is_known known e)) && (b || false)) && alike source f) (none e n f) ∙ never (is_known known n && not (is_known known e)) (alike source f)
  no_end atom none (End e n f) =
      ap (λ b. ((is_known known e && not (is_known known n)) && (b || false)) && alike source f) (none e n f) ∙ never (is_known known e && not (is_known known n)) (alike source f)

  only_at : (atom : Atom) → IsOnly (possible known source atom) (step_at known source atom)
  only_at (Ends edge first second) = only_end edge first second (is_known known edge) (is_known known (cond source first second)) refl refl
  only_at (HasLabel var label) = no_end (HasLabel var label) (λ e n f. refl)
  only_at (FitsNode var number) = no_end (FitsNode var number) (λ e n f. refl)
  only_at (FitsEdge var number) = no_end (FitsEdge var number) (λ e n f. refl)
  only_at (Equals var key value) = no_end (Equals var key value) (λ e n f. refl)

-- ---- one edge place more

spread : (k l h e : Bool) → (k && (l || h)) ≡ (((k && l) || ((k && (h || false)) && e)) || ((k && (h || false)) && not e))
spread false l h e = refl
spread true true h e = refl
spread true false false e = refl
spread true false true true = refl
spread true false true false = refl

module _ (atoms : List Atom) (known : List Bool) (i : ℕ) (d : Atom) (below : i < length atoms) where
  more_steps : (s : Step) →
      ((is_step (take i atoms) known s || possible known true (get_or atoms i d) s) || possible known false (get_or atoms i d) s) ≡ is_step (take (i + 1) atoms) known s
  more_steps (Along edge node forward) =
      sym (ap (λ b. (is_known known node && not (is_known known edge)) && b) (list_any_more (has_end edge node forward) atoms i d below)
      ∙ spread (is_known known node && not (is_known known edge)) (list_any (has_end edge node forward) (take i atoms)) (has_end edge node forward (get_or atoms i d)) forward)
  more_steps (End edge node source) =
      sym (ap (λ b. (is_known known edge && not (is_known known node)) && b) (list_any_more (has_end edge node source) atoms i d below)
      ∙ spread (is_known known edge && not (is_known known node)) (list_any (has_end edge node source) (take i atoms)) (has_end edge node source (get_or atoms i d)) source)

  -- the best of the steps before, and the better of it and of those at one place more
  pub best_more : (before : Option Step) → IsBestOf atoms (is_step (take i atoms) known) before →
      IsBestOf atoms (is_step (take (i + 1) atoms) known) (better atoms (better atoms before (step_at known true (get_or atoms i d))) (step_at known false (get_or atoms i d)))
  best_more before is =
      let atom = get_or atoms i d in
      let by_source = better_of atoms (is_step (take i atoms) known) (possible known true atom) before (step_at known true atom) is (only_at known true atom) in
      let by_both = better_of atoms (λ s. is_step (take i atoms) known s || possible known true atom s) (possible known false atom) (better atoms before (step_at known true atom))
      (step_at known false atom) by_source (only_at known false atom) in
      subst (λ (among : Step → Bool). IsBestOf atoms among (better atoms (better atoms before (step_at known true atom)) (step_at known false atom))) (λ i s. more_steps s i) by_both

-- where no step is possible, each edge place is closed
pub all_closed : (atoms : List Atom) (known : List Bool) → ((s : Step) → is_step atoms known s ≡ false) → list_all (is_closed_at known) atoms ≡ true
all_closed atoms known none = ⊎_elim (λ (s : (step : Step) × (is_step atoms known step ≡ true)). absurd (true≢false (sym s.1 ∙ none s.0))) (λ closed. closed) (next atoms known)

-- a step more at the end
pub best_steps_more : (atoms : List Atom) (known : List Bool) (plan : List Step) (step : Step) → AreBest atoms known plan → IsBest atoms (is_step atoms (known_after known plan)) step →
    AreBest atoms known (plan ++ step ∷ [])
best_steps_more atoms known [] step best one = (one, tt)
best_steps_more atoms known (first ∷ plan) step best one = (best.0, best_steps_more atoms (and_known known (bound_by first)) plan step best.1 one)
