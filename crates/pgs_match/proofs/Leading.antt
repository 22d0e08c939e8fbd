-- Going back by one step from stands, and by the steps of a plan: what is counted of all that is led back to, and what is among it.
use Rattle.std.proofs.Common.{◌≡◌, ◌⊎◌, inl, inr, ⊎_elim, ℕ, ◌+◌, ◌≤◌, ◌<◌, Bool, true, false, ◌||◌, ◌==◌, not, cond, List, [], ◌∷◌, ◌++◌, map, filter, flat_map, length, take, get_or, refl, sym, ◌∙◌, ap, true≢false, append-nil, append_assoc, arith}
use Rattle.std.specs.List.{list_any, sum_by, Contains}
use Rattle.std.specs.Cmp.{Equal-is}
use Rattle.std.proofs.lemmas.Bool.{or_cases, or_left, or_right}
use Rattle.std.proofs.lemmas.List.{take_more}
use Rattle.std.proofs.lemmas.List.Folds.{list_any-append, list_any_at, Any-from_list_any}
use Rattle.std.proofs.lemmas.List.Sums.{sum_by-cons, sum_by-append}
use Rattle.std.proofs.lemmas.Grind.{flat_map-append}
use Rattle.pgs_base.specs.declared.element.Elem.{Elem}
use Rattle.pgs_base.specs.Graph.{Graph}
use Rattle.pgs_base.specs.Order.{elem_cmp}
use Rattle.pgs_base.specs.OrderLaws.{exact_elem}
use Rattle.pgs_syntax.specs.declared.pattern.Atom.{Atom}
use Rattle.pgs_syntax.specs.declared.resolved.Resolved.{Resolved}
use Rattle.pgs_syntax.specs.Matches.{same_elem}
use Rattle.pgs_syntax.proofs.Halves.{any_flat_map}
use Rattle.pgs_match.specs.declared.step.Step.{Step}
use Rattle.pgs_match.specs.declared.stand.Stand.{Stand}
use Rattle.pgs_match.specs.Plans.{bound_by}
use Rattle.pgs_match.specs.Spread.{elems_at, not_at, back_most, back, one_back, led_back, one_most, led_most}

-- ---- lists

pub sum_flat : {X Y : Type 0} (count : Y → ℕ) (f : X → List Y) (xs : List X) → sum_by count (flat_map f xs) ≡ sum_by (λ x. sum_by count (f x)) xs
sum_flat count f [] = refl
sum_flat count f (x ∷ xs) =
    sum_by-append count (f x) (flat_map f xs) ∙ ap (λ n. sum_by count (f x) + n) (sum_flat count f xs) ∙ sym (sum_by-cons (λ y. sum_by count (f y)) x xs)

pub flat_next : {X Y : Type 0} (f : X → List Y) (start now more : List Y) (xs : List X) (i : ℕ) (d : X) → i < length xs →
    now ≡ start ++ flat_map f (take i xs) → more ≡ now ++ f (get_or xs i d) → more ≡ start ++ flat_map f (take (i + 1) xs)
flat_next f start now more xs i d below so_far added =
    let x = get_or xs i d in
    added ∙ ap (λ ys. ys ++ f x) so_far ∙ append_assoc start (flat_map f (take i xs)) (f x)
    ∙ ap (λ ys. start ++ ys) (sym (ap (flat_map f) (take_more xs i d below)
    ∙ flat_map-append f (take i xs) (x ∷ []) ∙ ap (λ ys. flat_map f (take i xs) ++ ys) (append-nil (f x))))

pub flat_more : {X Y : Type 0} (f : X → List Y) (start now more : List Y) (xs : List X) (i : ℕ) (x : X) → i < length xs → get_or xs i x ≡ x →
    now ≡ start ++ flat_map f (take i xs) → more ≡ now ++ f x → more ≡ start ++ flat_map f (take (i + 1) xs)
flat_more f start now more xs i x below is so_far added =
    flat_next f start now more xs i x below so_far (added ∙ ap (λ y. now ++ f y) (sym is))

-- a test that one of some elements passes is passed by one of others among which these are
pub any_over : (test : Elem → Bool) (xs ys : List Elem) → ((elem : Elem) → Contains xs elem → list_any (same_elem elem) ys ≡ true) → list_any test xs ≡ true → list_any test ys ≡ true
any_over test xs ys among some =
    let it = Any-from_list_any test xs some in
    let there = Any-from_list_any (same_elem it.1) ys (among it.1 (it.0, it.2, it.3)) in
    let same : it.1 ≡ there.1 = exact_elem it.1 there.1 ((Equal-is (elem_cmp it.1 there.1)).0 there.4) in
    list_any_at test ys there.0 there.1 there.2 (ap test there.3 ∙ ap test (sym same) ∙ it.4)

-- ---- one step

module _ (resolved : Resolved) (g : Graph) (atoms : List Atom) (step : Step) where
  abbrev back_from : Elem → List Stand
  back_from = back resolved g atoms step

  abbrev back_of : Stand → List Stand
  back_of = one_back resolved g atoms step

  abbrev Parts : (Stand → Bool) → List Stand → Type 0
  Parts test stands = (list_any test (not_at (bound_by step) stands) ≡ true) ⊎ (list_any (λ elem. list_any test (back_from elem)) (elems_at (bound_by step) stands) ≡ true)

  abbrev Here : (Stand → Bool) → Stand → List Stand → Bool → Type 0
  Here test stand stands b = (list_any test (cond (not b) (stand ∷ not_at (bound_by step) stands) (not_at (bound_by step) stands)) ≡ true)
      ⊎ (list_any (λ elem. list_any test (back_from elem))
      (map (λ (s : Stand). s.elem) (cond b (stand ∷ filter (λ (s : Stand). s.var == bound_by step) stands) (filter (λ (s : Stand). s.var == bound_by step) stands))) ≡ true)

  any_parts : (test : Stand → Bool) (stands : List Stand) → list_any test (flat_map back_of stands) ≡ true → Parts test stands
  any_parts test [] some = absurd (true≢false (sym some))
  any_parts test (stand ∷ stands) some = by (any_parts test stands) (stand.var == bound_by step) (or_cases _ _ (sym (list_any-append test (back_of stand) (flat_map back_of stands)) ∙ some))
    where
      alone : (b : Bool) → (b || false) ≡ true → b ≡ true
      alone true h = refl
      alone false h = h

      later : (b : Bool) → Parts test stands → Here test stand stands b
      later true (inl other) = inl other
      later true (inr here) = inr (or_right (list_any test (back_from stand.elem)) _ here)
      later false (inl other) = inl (or_right (test stand) _ other)
      later false (inr here) = inr here

      by : (list_any test (flat_map back_of stands) ≡ true → Parts test stands) → (b : Bool) → (list_any test (cond b (back_from stand.elem) (stand ∷ [])) ≡ true) ⊎ (list_any test (flat_map back_of stands) ≡ true) → Here test stand stands b
      by all true (inl first) = inr (or_left _ _ first)
      by all false (inl first) = inl (or_left _ _ (alone (test stand) first))
      by all b (inr rest) = later b (all rest)

  sum_parts : (count : Stand → ℕ) (stands : List Stand) →
      sum_by count (not_at (bound_by step) stands) + sum_by (λ elem. sum_by count (back_from elem)) (elems_at (bound_by step) stands) ≡ sum_by count (flat_map back_of stands)
  sum_parts count [] = refl
  sum_parts count (stand ∷ stands) = by (sum_parts count stands) (stand.var == bound_by step)
    where
      others : List Stand
      others = not_at (bound_by step) stands

      here : List Stand
      here = filter (λ (s : Stand). s.var == bound_by step) stands

      of_elem : Elem → ℕ
      of_elem elem = sum_by count (back_from elem)

      by : sum_by count others + sum_by of_elem (map (λ (s : Stand). s.elem) here) ≡ sum_by count (flat_map back_of stands) →
          (b : Bool) → sum_by count (cond (not b) (stand ∷ others) others) + sum_by of_elem (map (λ (s : Stand). s.elem) (cond b (stand ∷ here) here))
          ≡ sum_by count (cond b (back_from stand.elem) (stand ∷ []) ++ flat_map back_of stands)
      by rest true =
          let all = sum_by-append count (back_from stand.elem) (flat_map back_of stands) in
          let cons = sum_by-cons of_elem stand.elem (map (λ (s : Stand). s.elem) here) in
          omega (arith, rest, all, cons)
      by rest false =
          let all = sum_by-cons count stand (flat_map back_of stands) in
          let cons = sum_by-cons count stand others in
          omega (arith, rest, all, cons)

  pub most_parts : (stands : List Stand) → sum_by (back_most g step) (elems_at (bound_by step) stands) ≡ sum_by (one_most g step) stands
  most_parts [] = refl
  most_parts (stand ∷ stands) = by (most_parts stands) (stand.var == bound_by step) refl
    where
      here : List Stand
      here = filter (λ (s : Stand). s.var == bound_by step) stands

      by : sum_by (back_most g step) (map (λ (s : Stand). s.elem) here) ≡ sum_by (one_most g step) stands → (b : Bool) → (stand.var == bound_by step) ≡ b → sum_by (back_most g step) (map (λ (s : Stand). s.elem) (cond b (stand ∷ here) here)) ≡ sum_by (one_most g step) (stand ∷ stands)
      by rest true is =
          let all = sum_by-cons (one_most g step) stand stands in
          let cons = sum_by-cons (back_most g step) stand.elem (map (λ (s : Stand). s.elem) here) in
          let one : one_most g step stand ≡ back_most g step stand.elem = ap (λ b. cond b (back_most g step stand.elem) 0) is in
          omega (arith, rest, all, cons, one)
      by rest false is =
          let all = sum_by-cons (one_most g step) stand stands in
          let one : one_most g step stand ≡ 0 = ap (λ b. cond b (back_most g step stand.elem) 0) is in
          omega (arith, rest, all, one)

  module _ (stands : List Stand) (once : List Elem) (ends : List Stand) (is : ends ≡ not_at (bound_by step) stands ++ flat_map back_from once) where
    pub step_all : ((elem : Elem) → Contains (elems_at (bound_by step) stands) elem → list_any (same_elem elem) once ≡ true) → (test : Stand → Bool) →
        list_any test (flat_map back_of stands) ≡ true → list_any test ends ≡ true
    step_all kept test some =
        ap (list_any test) is ∙ list_any-append test (not_at (bound_by step) stands) (flat_map back_from once)
        ∙ ⊎_elim
        (λ other. or_left _ _ other)
        (λ here. or_right (list_any test (not_at (bound_by step) stands)) _
        (any_flat_map test back_from once ∙ any_over (λ elem. list_any test (back_from elem)) (elems_at (bound_by step) stands) once kept here))
        (any_parts test stands some)

    pub step_few : ((count : Elem → ℕ) → sum_by count once ≤ sum_by count (elems_at (bound_by step) stands)) → (count : Stand → ℕ) → sum_by count ends ≤ sum_by count (flat_map back_of stands)
    step_few fewer count =
        let all : sum_by count ends ≡ sum_by count (not_at (bound_by step) stands ++ flat_map back_from once) = ap (sum_by count) is in
        let both = sum_by-append count (not_at (bound_by step) stands) (flat_map back_from once) in
        let some = sum_flat count back_from once in
        let less = fewer (λ elem. sum_by count (back_from elem)) in
        let whole = sum_parts count stands in
        omega (arith, all, both, some, less, whole)

  pub step_cost : (stands : List Stand) (once : List Elem) (start now : ℕ) → ((count : Elem → ℕ) → sum_by count once ≤ sum_by count (elems_at (bound_by step) stands)) →
      now ≤ start + sum_by (back_most g step) once → now ≤ start + sum_by (one_most g step) stands
  step_cost stands once start now fewer cost = let less = fewer (back_most g step) in let same = most_parts stands in omega (arith, cost, less, same)

-- ---- no step

pub led_none : (resolved : Resolved) (g : Graph) (atoms : List Atom) (xs : List Stand) → flat_map (led_back resolved g atoms []) xs ≡ xs
led_none resolved g atoms [] = refl
led_none resolved g atoms (x ∷ xs) = ap (λ rest. x ∷ rest) (led_none resolved g atoms xs)

-- ---- a step before others

module _ (resolved : Resolved) (g : Graph) (atoms : List Atom) (step : Step) (plan : List Step) (stands : List Stand) where
  abbrev led : Stand → List Stand
  led = led_back resolved g atoms plan

  abbrev back_by : Stand → List Stand
  back_by = one_back resolved g atoms step

  pub any_twice : (test : Stand → Bool) (xs : List Stand) → list_any test (flat_map (led_back resolved g atoms (step ∷ plan)) xs) ≡ list_any (λ s. list_any test (back_by s)) (flat_map led xs)
  any_twice test [] = refl
  any_twice test (x ∷ xs) =
      list_any-append test (flat_map back_by (led x)) (flat_map (led_back resolved g atoms (step ∷ plan)) xs)
      ∙ ap (λ b. b || list_any test (flat_map (led_back resolved g atoms (step ∷ plan)) xs)) (any_flat_map test back_by (led x))
      ∙ ap (λ b. list_any (λ s. list_any test (back_by s)) (led x) || b) (any_twice test xs)
      ∙ sym (list_any-append (λ s. list_any test (back_by s)) (led x) (flat_map led xs))

  pub led_all : (far ends : List Stand) → ((test : Stand → Bool) → list_any test (flat_map led stands) ≡ true → list_any test far ≡ true) →
      ((test : Stand → Bool) → list_any test (flat_map back_by far) ≡ true → list_any test ends ≡ true) →
      (test : Stand → Bool) → list_any test (flat_map (led_back resolved g atoms (step ∷ plan)) stands) ≡ true → list_any test ends ≡ true
  led_all far ends before after test some =
      after test (any_flat_map test back_by far ∙ before (λ s. list_any test (back_by s)) (sym (any_twice test stands) ∙ some))

  sum_twice : (count : Stand → ℕ) (xs : List Stand) → sum_by count (flat_map (led_back resolved g atoms (step ∷ plan)) xs) ≡ sum_by (λ s. sum_by count (back_by s)) (flat_map led xs)
  sum_twice count [] = refl
  sum_twice count (x ∷ xs) =
      sum_by-append count (flat_map back_by (led x)) (flat_map (led_back resolved g atoms (step ∷ plan)) xs)
      ∙ ap (λ n. n + sum_by count (flat_map (led_back resolved g atoms (step ∷ plan)) xs)) (sum_flat count back_by (led x))
      ∙ ap (λ n. sum_by (λ s. sum_by count (back_by s)) (led x) + n) (sum_twice count xs)
      ∙ sym (sum_by-append (λ s. sum_by count (back_by s)) (led x) (flat_map led xs))

  pub led_few : (far ends : List Stand) → ((count : Stand → ℕ) → sum_by count far ≤ sum_by count (flat_map led stands)) →
      ((count : Stand → ℕ) → sum_by count ends ≤ sum_by count (flat_map back_by far)) →
      (count : Stand → ℕ) → sum_by count ends ≤ sum_by count (flat_map (led_back resolved g atoms (step ∷ plan)) stands)
  led_few far ends before after count =
      let first = before (λ s. sum_by count (back_by s)) in
      let second = after count in
      let same = sum_flat count back_by far in
      let whole = sum_twice count stands in
      omega (arith, first, second, same, whole)

  sum_most_twice : (xs : List Stand) → sum_by (led_most resolved g atoms (step ∷ plan)) xs ≡ sum_by (led_most resolved g atoms plan) xs + sum_by (one_most g step) (flat_map led xs)
  sum_most_twice [] = refl
  sum_most_twice (x ∷ xs) =
      let rest = sum_most_twice xs in
      let one = sum_by-cons (led_most resolved g atoms (step ∷ plan)) x xs in
      let two = sum_by-cons (led_most resolved g atoms plan) x xs in
      let three = sum_by-append (one_most g step) (led x) (flat_map led xs) in
      omega (arith, rest, one, two, three)

  pub led_cost : (far : List Stand) (start mid now : ℕ) → ((count : Stand → ℕ) → sum_by count far ≤ sum_by count (flat_map led stands)) →
      mid ≤ start + sum_by (led_most resolved g atoms plan) stands → now ≤ mid + sum_by (one_most g step) far → now ≤ start + sum_by (led_most resolved g atoms (step ∷ plan)) stands
  led_cost far start mid now fewer first second = let less = fewer (one_most g step) in let whole = sum_most_twice stands in omega (arith, first, second, less, whole)

  -- before the last step is taken
  pub led_cost_before : (start mid : ℕ) → mid ≤ start + sum_by (led_most resolved g atoms plan) stands → mid ≤ start + sum_by (led_most resolved g atoms (step ∷ plan)) stands
  led_cost_before start mid first = let whole = sum_most_twice stands in omega (arith, first, whole)
