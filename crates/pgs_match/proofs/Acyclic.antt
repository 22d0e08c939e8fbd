-- A connected pattern without cycles has one end of an edge place fewer than variables; so each plan of it has a step for each of them.
use Rattle.std.proofs.Common.{◌≡◌, ℕ, ◌+◌, ◌<◌, ◌≤◌, Bool, true, false, ◌&&◌, ◌||◌, ◌==◌, not, cond, ⊎_elim, List, [], ◌∷◌, length, replicate, filter, refl, sym, ◌∙◌, ap, subst, true≢false, arith}
use Rattle.std.specs.List.{list_any, list_all}
use Rattle.std.proofs.lemmas.Bool.{and_parts, and_from, or_cases, or_left, or_right, eqb-true, eq-eqb, not-true}
use Rattle.std.proofs.lemmas.List.{length-set}
use Rattle.pgs_syntax.specs.declared.pattern.Atom.{Atom}
use Rattle.pgs_syntax.specs.declared.pattern.Atom.TheVariants.{Ends, HasLabel, FitsNode, FitsEdge, Equals}
use Rattle.pgs_syntax.specs.declared.pattern.Pattern.{Pattern}
use Rattle.pgs_syntax.specs.Valid.{is_valid_pattern}
use Rattle.pgs_match.specs.declared.step.Step.{Step}
use Rattle.pgs_match.specs.declared.step.Step.TheVariants.{Along, End}
use Rattle.pgs_match.specs.Branches.{is_between, has_steps, is_tree, with_join, joins, has_no_cycle}
use Rattle.pgs_match.specs.Plans.{bound_by, is_known, and_known, known_alone, known_after, has_end, is_step, are_steps, covers, is_plan}
use Rattle.pgs_match.proofs.Bounded.{all_left}
use Rattle.pgs_match.proofs.Counts.{left, left_less, some_at}
use Rattle.pgs_match.proofs.Hanging.{between_cases}
use Rattle.pgs_match.proofs.Known.{valid_most, step_bounds, known_now, known_still}
use Rattle.pgs_match.proofs.Started.{none_known}

-- ---- ends as steps

-- whether two steps are at one end
abbrev pub is_at_one : Step → Step → Bool
is_at_one (Along edge node forward) step = is_between edge node forward step
is_at_one (End edge node source) step = is_between edge node source step

-- whether a step is at some of some
abbrev is_among : List Step → Step → Bool
is_among steps step = list_any (is_at_one step) steps

side_itself : (source : Bool) → cond source source (not source) ≡ true
side_itself true = refl
side_itself false = refl

between_itself : (edge node : ℕ) (source : Bool) → (edge == edge && node == node && cond source source (not source)) ≡ true
between_itself edge node source = and_from _ _ (and_from _ _ (eq-eqb edge edge refl) (eq-eqb node node refl)) (side_itself source)

-- the end of a step in words
abbrev IsAt : ℕ → ℕ → Bool → Step → Type 0
IsAt edge node source (Along of end forward) = (edge ≡ of) × (node ≡ end) × (source ≡ forward)
IsAt edge node source (End of end first) = (edge ≡ of) × (node ≡ end) × (source ≡ first)

is_at : (edge node : ℕ) (source : Bool) (step : Step) → is_between edge node source step ≡ true → IsAt edge node source step
is_at edge node source (Along of end forward) h = between_cases edge node of end source forward h
is_at edge node source (End of end first) h = between_cases edge node of end source first h

-- steps at one end are so of all
same_end : (a b c : Step) → is_at_one a b ≡ true → is_at_one a c ≡ true → is_at_one b c ≡ true
same_end (Along edge node source) (Along of end first) c h k = let at = between_cases edge node of end source first h in
    subst (λ s. is_between of end s c ≡ true) at.2 (subst (λ n. is_between of n source c ≡ true) at.1 (subst (λ e. is_between e node source c ≡ true) at.0 k))
same_end (Along edge node source) (End of end first) c h k = let at = between_cases edge node of end source first h in
    subst (λ s. is_between of end s c ≡ true) at.2 (subst (λ n. is_between of n source c ≡ true) at.1 (subst (λ e. is_between e node source c ≡ true) at.0 k))
same_end (End edge node source) (Along of end first) c h k = let at = between_cases edge node of end source first h in
    subst (λ s. is_between of end s c ≡ true) at.2 (subst (λ n. is_between of n source c ≡ true) at.1 (subst (λ e. is_between e node source c ≡ true) at.0 k))
same_end (End edge node source) (End of end first) c h k = let at = between_cases edge node of end source first h in
    subst (λ s. is_between of end s c ≡ true) at.2 (subst (λ n. is_between of n source c ≡ true) at.1 (subst (λ e. is_between e node source c ≡ true) at.0 k))

at_itself : (a : Step) → is_at_one a a ≡ true
at_itself (Along edge node forward) = between_itself edge node forward
at_itself (End edge node source) = between_itself edge node source

-- ---- no more steps at ends apart than there are ends

abbrev AreApart : List Step → Type 0
AreApart [] = Unit {0}
AreApart (step ∷ steps) = (is_among steps step ≡ false) × AreApart steps

module _ (step : Step) where
  -- there are fewer others
  fewer : (ends : List Step) → is_among ends step ≡ true → length (filter (λ end. not (is_at_one step end)) ends) < length ends
  fewer [] h = absurd (true≢false (sym h))
  fewer (end ∷ ends) h = by (is_at_one step end) h (no_more ends) (fewer ends)
    where
      no_more : (ends : List Step) → length (filter (λ end. not (is_at_one step end)) ends) ≤ length ends
      no_more [] = omega arith
      no_more (end ∷ ends) = inner (is_at_one step end) (no_more ends)
        where
          inner : (b : Bool) → length (filter (λ end. not (is_at_one step end)) ends) ≤ length ends →
              length (cond (not b) (end ∷ filter (λ end. not (is_at_one step end)) ends) (filter (λ end. not (is_at_one step end)) ends)) ≤ length (end ∷ ends)
          inner true rest = omega arith
          inner false rest = omega arith

      by : (b : Bool) → (b || is_among ends step) ≡ true → length (filter (λ end. not (is_at_one step end)) ends) ≤ length ends →
          (is_among ends step ≡ true → length (filter (λ end. not (is_at_one step end)) ends) < length ends) →
          length (cond (not b) (end ∷ filter (λ end. not (is_at_one step end)) ends) (filter (λ end. not (is_at_one step end)) ends)) < length (end ∷ ends)
      by true here some rest = omega arith
      by false later some rest = let less = rest later in omega arith

  -- one that is apart stays among the others
  still_among : (other : Step) → is_at_one other step ≡ false → (ends : List Step) → is_among ends other ≡ true → is_among (filter (λ end. not (is_at_one step end)) ends) other ≡ true
  still_among other apart [] h = absurd (true≢false (sym h))
  still_among other apart (end ∷ ends) h =
      ⊎_elim (λ here. by_here (is_at_one step end) refl here) (λ later. by_later (is_at_one step end) (still_among other apart ends later)) (or_cases (is_at_one other end) _ h)
    where
      by_here : (b : Bool) → is_at_one step end ≡ b → is_at_one other end ≡ true →
          is_among (cond (not b) (end ∷ filter (λ end. not (is_at_one step end)) ends) (filter (λ end. not (is_at_one step end)) ends)) other ≡ true
      by_here true at here = absurd (true≢false (sym (same_end end other step (back end other here) (back end step at)) ∙ apart))
        where
          back : (a b : Step) → is_at_one b a ≡ true → is_at_one a b ≡ true
          back a b k = same_end b a b k (at_itself b)
      by_here false at here = or_left _ _ here

      by_later : (b : Bool) → is_among (filter (λ end. not (is_at_one step end)) ends) other ≡ true →
          is_among (cond (not b) (end ∷ filter (λ end. not (is_at_one step end)) ends) (filter (λ end. not (is_at_one step end)) ends)) other ≡ true
      by_later true rest = rest
      by_later false rest = or_right _ _ rest

-- a pigeonhole for each
apart_fit : (steps ends : List Step) → AreApart steps → list_all (is_among ends) steps ≡ true → length steps ≤ length ends
apart_fit [] ends apart all = omega arith
apart_fit (step ∷ steps) ends apart all =
    let parts = and_parts (is_among ends step) _ all in
    let less = fewer step ends parts.0 in
    let rest = apart_fit steps (filter (λ end. not (is_at_one step end)) ends) apart.1 (kept steps apart.0 parts.1) in
    omega arith
  where
    kept : (steps : List Step) → is_among steps step ≡ false → list_all (is_among ends) steps ≡ true → list_all (is_among (filter (λ end. not (is_at_one step end)) ends)) steps ≡ true
    kept [] none all = refl
    kept (other ∷ steps) none all =
        let parts = and_parts (is_among ends other) _ all in
        and_from _ _ (still_among step other (turned (is_at_one step other) refl) ends parts.0) (kept steps (later (is_at_one step other) none) parts.1)
      where
        later : (b : Bool) → (b || is_among steps step) ≡ false → is_among steps step ≡ false
        later true h = absurd (true≢false h)
        later false h = h

        first : (b : Bool) → (b || is_among steps step) ≡ false → b ≡ false
        first true h = absurd (true≢false h)
        first false h = refl

        turned : (b : Bool) → is_at_one step other ≡ b → is_at_one other step ≡ false
        turned true at = absurd (true≢false (sym at ∙ first (is_at_one step other) none))
        turned false at = other_way (is_at_one other step) refl
          where
            other_way : (b : Bool) → is_at_one other step ≡ b → is_at_one other step ≡ false
            other_way true k = absurd (true≢false (sym (same_end other step other k (at_itself other)) ∙ at))
            other_way false k = k

-- ---- the steps of a plan

known_not : (atoms : List Atom) (known : List Bool) (step : Step) → is_step atoms known step ≡ true → is_known known (bound_by step) ≡ false
known_not atoms known (Along edge node forward) h = not-true _ (and_parts (is_known known node) _ (and_parts (is_known known node && not (is_known known edge)) _ h).0).1
known_not atoms known (End edge node source) h = not-true _ (and_parts (is_known known edge) _ (and_parts (is_known known edge && not (is_known known node)) _ h).0).1

-- no step is between two known variables
not_here : (atoms : List Atom) (known : List Bool) (step : Step) → is_step atoms known step ≡ true → (edge node : ℕ) (source : Bool) → is_known known edge ≡ true → is_known known node ≡ true →
    is_between edge node source step ≡ false
not_here atoms known step is edge node source e n = by (is_between edge node source step) refl
  where
    apart : (step : Step) → is_step atoms known step ≡ true → IsAt edge node source step → ⊥
    apart (Along of end first) h at = true≢false (sym e ∙ ap (is_known known) at.0 ∙ known_not atoms known (Along of end first) h)
    apart (End of end first) h at = true≢false (sym n ∙ ap (is_known known) at.1 ∙ known_not atoms known (End of end first) h)

    by : (b : Bool) → is_between edge node source step ≡ b → is_between edge node source step ≡ false
    by true h = absurd (apart step is (is_at edge node source step h))
    by false h = h

not_among : (atoms : List Atom) (known : List Bool) (plan : List Step) → are_steps atoms known plan ≡ true → (edge node : ℕ) (source : Bool) → is_known known edge ≡ true → is_known known node ≡ true →
    list_any (is_between edge node source) plan ≡ false
not_among atoms known [] steps edge node source e n = refl
not_among atoms known (step ∷ plan) steps edge node source e n =
    let parts = and_parts (is_step atoms known step) _ steps in
    ap (λ b. b || list_any (is_between edge node source) plan) (not_here atoms known step parts.0 edge node source e n)
    ∙ not_among atoms (and_known known (bound_by step)) plan parts.1 edge node source (known_still known (bound_by step) edge e) (known_still known (bound_by step) node n)

has_join : (atoms : List Atom) (edge node : ℕ) (source : Bool) → list_any (has_end edge node source) atoms ≡ true → list_any (is_between edge node source) (joins atoms) ≡ true
has_join [] edge node source has = absurd (true≢false (sym has))
has_join (Ends of first second ∷ atoms) edge node source has =
    ⊎_elim (λ here. let is = and_parts (of == edge) _ here in by source is.1 (eqb-true of edge is.0))
    (λ later. kept of first true (with_join of second false (joins atoms)) (kept of second false (joins atoms) (has_join atoms edge node source later)))
    (or_cases (has_end edge node source (Ends of first second)) _ has)
  where
    kept : (e n : ℕ) (s : Bool) (ends : List Step) → list_any (is_between edge node source) ends ≡ true → list_any (is_between edge node source) (with_join e n s ends) ≡ true
    kept e n s ends h = inner (list_any (is_between e n s) ends)
      where
        inner : (b : Bool) → list_any (is_between edge node source) (cond b ends (Along e n s ∷ ends)) ≡ true
        inner true = h
        inner false = or_right _ _ h

    now : (e n : ℕ) (s : Bool) (ends : List Step) → list_any (is_between e n s) (with_join e n s ends) ≡ true
    now e n s ends = inner (list_any (is_between e n s) ends) refl
      where
        inner : (b : Bool) → list_any (is_between e n s) ends ≡ b → list_any (is_between e n s) (cond b ends (Along e n s ∷ ends)) ≡ true
        inner true h = h
        inner false h = or_left _ _ (between_itself e n s)

    by : (source : Bool) → (cond source first second == node) ≡ true → of ≡ edge → list_any (is_between edge node source) (with_join of first true (with_join of second false (joins atoms))) ≡ true
    by true at same =
        subst (λ e. list_any (is_between e node true) (with_join of first true (with_join of second false (joins atoms))) ≡ true) same
        (subst (λ n. list_any (is_between of n true) (with_join of first true (with_join of second false (joins atoms))) ≡ true) (eqb-true first node at)
        (now of first true (with_join of second false (joins atoms))))
    by false at same =
        subst (λ e. list_any (is_between e node false) (with_join of first true (with_join of second false (joins atoms))) ≡ true) same
        (subst (λ n. list_any (is_between of n false) (with_join of first true (with_join of second false (joins atoms))) ≡ true) (eqb-true second node at)
        (over (with_join of second false (joins atoms)) (now of second false (joins atoms))))
      where
        over : (ends : List Step) → list_any (is_between of second false) ends ≡ true → list_any (is_between of second false) (with_join of first true ends) ≡ true
        over ends h = inner (list_any (is_between of first true) ends)
          where
            inner : (b : Bool) → list_any (is_between of second false) (cond b ends (Along of first true ∷ ends)) ≡ true
            inner true = h
            inner false = or_right _ _ h
has_join (HasLabel var label ∷ atoms) edge node source has = has_join atoms edge node source has
has_join (FitsNode var number ∷ atoms) edge node source has = has_join atoms edge node source has
has_join (FitsEdge var number ∷ atoms) edge node source has = has_join atoms edge node source has
has_join (Equals var key value ∷ atoms) edge node source has = has_join atoms edge node source has

all_steps : (plan : List Step) (atoms : List Atom) → ((edge node : ℕ) (source : Bool) → list_any (has_end edge node source) atoms ≡ true → list_any (is_between edge node source) plan ≡ true) →
    list_all (has_steps plan) atoms ≡ true
all_steps plan [] each = refl
all_steps plan (Ends edge source target ∷ atoms) each =
    and_from _ _
    (and_from _ _ (each edge source true (or_left _ _ (and_from _ _ (eq-eqb edge edge refl) (eq-eqb source source refl))))
    (each edge target false (or_left _ _ (and_from _ _ (eq-eqb edge edge refl) (eq-eqb target target refl)))))
    (all_steps plan atoms (λ e n s has. each e n s (or_right _ _ has)))
all_steps plan (HasLabel var label ∷ atoms) each = all_steps plan atoms (λ e n s has. each e n s has)
all_steps plan (FitsNode var number ∷ atoms) each = all_steps plan atoms (λ e n s has. each e n s has)
all_steps plan (FitsEdge var number ∷ atoms) each = all_steps plan atoms (λ e n s has. each e n s has)
all_steps plan (Equals var key value ∷ atoms) each = all_steps plan atoms (λ e n s has. each e n s has)

none_left : (edge_vars known : List Bool) → covers edge_vars known ≡ true → left (λ kind. 1) edge_vars known ≡ 0
none_left [] known h = refl
none_left (kind ∷ kinds) [] h = absurd (true≢false (sym h))
none_left (kind ∷ kinds) (true ∷ known) h = let rest = none_left kinds known h in omega arith
none_left (kind ∷ kinds) (false ∷ known) h = absurd (true≢false (sym h))

module _ (pattern : Pattern) (valid : is_valid_pattern pattern ≡ true) where
  steps_left : (plan : List Step) (known : List Bool) → length known ≡ 20 → are_steps pattern.atoms known plan ≡ true →
      left (λ kind. 1) pattern.edge_vars known ≡ length plan + left (λ kind. 1) pattern.edge_vars (known_after known plan)
  steps_left [] known size steps = omega arith
  steps_left (step ∷ plan) known size steps =
      let parts = and_parts (is_step pattern.atoms known step) _ steps in
      let bounds = step_bounds pattern pattern.atoms known step (bound_by step) valid refl refl parts.0 in
      let at = some_at pattern.edge_vars (bound_by step) bounds.0 in
      let less = left_less (λ kind. 1) pattern.edge_vars known (bound_by step) at.0 at.1 bounds.2 (omega (arith, size, bounds.1)) in
      let rest = steps_left plan (and_known known (bound_by step)) (length-set known (bound_by step) true ∙ size) parts.1 in
      omega (arith, less, rest)

  steps_apart : (plan : List Step) (known : List Bool) → length known ≡ 20 → are_steps pattern.atoms known plan ≡ true → AreApart plan
  steps_apart [] known size steps = tt
  steps_apart (step ∷ plan) known size steps =
      let parts = and_parts (is_step pattern.atoms known step) _ steps in
      let bounds = step_bounds pattern pattern.atoms known step (bound_by step) valid refl refl parts.0 in (
        by step parts.0 (known_now known (bound_by step) (omega (arith, size, bounds.1))) parts.1,
        steps_apart plan (and_known known (bound_by step)) (length-set known (bound_by step) true ∙ size) parts.1,
      )
    where
      by : (step : Step) → is_step pattern.atoms known step ≡ true → is_known (and_known known (bound_by step)) (bound_by step) ≡ true → are_steps pattern.atoms (and_known known (bound_by step)) plan ≡ true →
          is_among plan step ≡ false
      by (Along edge node forward) is now rest =
          not_among pattern.atoms (and_known known edge) plan rest edge node forward now
          (known_still known edge node (and_parts (is_known known node) _ (and_parts (is_known known node && not (is_known known edge)) _ is).0).0)
      by (End edge node source) is now rest =
          not_among pattern.atoms (and_known known node) plan rest edge node source
          (known_still known node edge (and_parts (is_known known edge) _ (and_parts (is_known known edge && not (is_known known node)) _ is).0).0) now

  steps_join : (plan : List Step) (known : List Bool) → are_steps pattern.atoms known plan ≡ true → list_all (is_among (joins pattern.atoms)) plan ≡ true
  steps_join [] known steps = refl
  steps_join (step ∷ plan) known steps =
      let parts = and_parts (is_step pattern.atoms known step) _ steps in
      and_from _ _ (by step parts.0) (steps_join plan (and_known known (bound_by step)) parts.1)
    where
      by : (step : Step) → is_step pattern.atoms known step ≡ true → is_among (joins pattern.atoms) step ≡ true
      by (Along edge node forward) is = has_join pattern.atoms edge node forward (and_parts (is_known known node && not (is_known known edge)) _ is).1
      by (End edge node source) is = has_join pattern.atoms edge node source (and_parts (is_known known edge && not (is_known known node)) _ is).1

  pub plan_is_tree : has_no_cycle pattern ≡ true → (var : ℕ) → var < length pattern.edge_vars → (plan : List Step) → is_plan pattern var plan ≡ true → is_tree pattern.atoms plan ≡ true
  plan_is_tree acyclic var below plan plans = all_steps plan pattern.atoms (λ edge node source has. by (list_any (is_between edge node source) plan) edge node source refl has)
    where
      parts : (are_steps pattern.atoms (known_alone var) plan ≡ true) × (covers pattern.edge_vars (known_after (known_alone var) plan) ≡ true)
      parts = and_parts (are_steps pattern.atoms (known_alone var) plan) _ plans

      size : length (known_alone var) ≡ 20
      size = length-set (replicate 20 false) var true

      long : length plan + 1 ≡ length pattern.edge_vars
      long =
          let most = valid_most pattern valid in
          let there : var < length (replicate 20 false) = omega arith in
          let kind = some_at pattern.edge_vars var below in
          let one = left_less (λ kind. 1) pattern.edge_vars (replicate 20 false) var kind.0 kind.1 (none_known 20 var) there in
          let all = (all_left pattern.edge_vars 20).1 in
          let of_steps = steps_left plan (known_alone var) size parts.0 in
          let none = none_left pattern.edge_vars (known_after (known_alone var) plan) parts.1 in
          omega (arith, one, all, of_steps, none)

      count : length (joins pattern.atoms) + 1 ≡ length pattern.edge_vars
      count = eqb-true (length (joins pattern.atoms) + 1) (length pattern.edge_vars) acyclic

      by : (b : Bool) → (edge node : ℕ) (source : Bool) → list_any (is_between edge node source) plan ≡ b → list_any (has_end edge node source) pattern.atoms ≡ true → list_any (is_between edge node source) plan ≡ true
      by true edge node source is has = is
      by false edge node source is has =
          let fit = apart_fit (Along edge node source ∷ plan) (joins pattern.atoms) (is, steps_apart plan (known_alone var) size parts.0)
          (and_from _ _ (has_join pattern.atoms edge node source has) (steps_join plan (known_alone var) parts.0)) in
          absurd (omega (arith, fit, long, count))
