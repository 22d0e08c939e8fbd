-- What walks back from starts pass: a list that has all of it bounds what going back costs, where each stand is gone back from once.
use Rattle.std.proofs.Common.{◌≡◌, ◌≢◌, ℕ, suc, ◌+◌, ◌*◌, ◌≤◌, ◌<◌, Bool, true, false, ◌&&◌, ◌||◌, ◌==◌, not, cond, List, [], ◌∷◌, filter, flat_map, length, refl, sym, ◌∙◌, ap, subst, true≢false, arith, Ordering, Less, Equal, Greater, is_lt}
use Rattle.std.specs.List.{list_any, list_all, sum_by, Contains}
use Rattle.std.specs.Ordering.{is_eq}
use Rattle.std.specs.Cmp.{tied_itself, Equal-is}
use Rattle.std.proofs.lemmas.Bool.{and_parts, and_from, eqb-true, eq-eqb}
use Rattle.std.proofs.lemmas.List.{length-set}
use Rattle.std.proofs.lemmas.List.Filters.{sum_by-filter_both}
use Rattle.std.proofs.lemmas.List.Folds.{list_any_at, Any-from_list_any}
use Rattle.std.proofs.lemmas.List.Sums.{sum_by-cons}
use Rattle.pgs_base.specs.declared.element.Elem.{Elem}
use Rattle.pgs_base.specs.declared.element.Elem.TheVariants.{Node, Edge}
use Rattle.pgs_base.specs.Graph.{Graph}
use Rattle.pgs_base.specs.Order.{ascends, elem_cmp}
use Rattle.pgs_base.specs.OrderLaws.{elem_cmp_total, exact_elem}
use Rattle.pgs_syntax.specs.declared.pattern.Atom.{Atom}
use Rattle.pgs_syntax.specs.declared.pattern.Pattern.{Pattern}
use Rattle.pgs_syntax.specs.declared.resolved.Resolved.{Resolved}
use Rattle.pgs_syntax.specs.Matches.{same_elem}
use Rattle.pgs_syntax.specs.Valid.{is_valid_pattern}
use Rattle.pgs_syntax.proofs.Halves.{any_map, any_filter}
use Rattle.pgs_match.specs.declared.step.Step.{Step}
use Rattle.pgs_match.specs.declared.step.Step.TheVariants.{Along, End}
use Rattle.pgs_match.specs.declared.stand.Stand.{Stand}
use Rattle.pgs_match.specs.Plans.{bound_by, is_known, and_known, is_step, are_steps}
use Rattle.pgs_match.specs.Spread.{elems_at, back_most, one_back, led_back, one_most, once_most, HasPassed, elem_degree}
use Rattle.pgs_match.proofs.Completed.{step_facts}
use Rattle.pgs_match.proofs.Known.{known_now}
use Rattle.pgs_match.proofs.Leading.{most_parts, led_none, any_twice}
use Rattle.pgs_match.proofs.Standing.{known_other}

-- ---- what is among a list

abbrev one_if : Bool → ℕ
one_if true = 1
one_if false = 0

counted : {X : Type 0} (test : X → Bool) (xs : List X) → list_any test xs ≡ true → 1 ≤ sum_by (λ x. one_if (test x)) xs
counted test [] some = absurd (true≢false (sym some))
counted {X} test (x ∷ xs) some = by (test x) refl some (counted test xs)
  where
    by : (b : Bool) → test x ≡ b → (b || list_any test xs) ≡ true → (list_any test xs ≡ true → 1 ≤ sum_by (λ y. one_if (test y)) xs) → 1 ≤ sum_by (λ y. one_if (test y)) (x ∷ xs)
    by true is some rest = let cons = sum_by-cons (λ y. one_if (test y)) x xs in let one : one_if (test x) ≡ 1 = ap one_if is in omega (arith, cons, one)
    by false is some rest = let cons = sum_by-cons (λ y. one_if (test y)) x xs in let more = rest some in omega (arith, cons, more)

uncounted : {X : Type 0} (test : X → Bool) (xs : List X) → 1 ≤ sum_by (λ x. one_if (test x)) xs → list_any test xs ≡ true
uncounted test [] some = absurd (omega (arith, some))
uncounted {X} test (x ∷ xs) some = by (test x) refl (uncounted test xs)
  where
    by : (b : Bool) → test x ≡ b → (1 ≤ sum_by (λ y. one_if (test y)) xs → list_any test xs ≡ true) → (b || list_any test xs) ≡ true
    by true is rest = refl
    by false is rest =
        let cons = sum_by-cons (λ y. one_if (test y)) x xs in
        let none : one_if (test x) ≡ 0 = ap one_if is in
        rest (omega (arith, some, cons, none))

-- what no sum tells apart from a part of a list is among it
pub among : {X : Type 0} (xs ys : List X) → ((count : X → ℕ) → sum_by count xs ≤ sum_by count ys) → (test : X → Bool) → list_any test xs ≡ true → list_any test ys ≡ true
among xs ys fewer test some = uncounted test ys (let one = counted test xs some in let less = fewer (λ x. one_if (test x)) in omega (arith, one, less))

-- what each test that an item of the one passes is passed by
pub within : {X : Type 0} (xs ys : List X) → ((x : X) → Contains xs x → Contains ys x) → (test : X → Bool) → list_any test xs ≡ true → list_any test ys ≡ true
within xs ys all test some =
    let it = Any-from_list_any test xs some in
    let own = all it.1 (it.0, it.2, it.3) in
    list_any_at test ys own.0 it.1 own.1 (ap test own.2 ∙ it.4)

each_passes : {X : Type 0} (test : X → Bool) (xs : List X) → ((x : X) → Contains xs x → test x ≡ true) → list_all test xs ≡ true
each_passes test [] all = refl
each_passes test (x ∷ xs) all = and_from _ _ (all x (0, omega arith, refl)) (each_passes test xs (λ y it. all y (suc it.0, omega (arith, it.1), it.2)))

-- the elements at a variable
pub at_var : (test : Elem → Bool) (var : ℕ) (xs : List Stand) → list_any test (elems_at var xs) ≡ list_any (λ (s : Stand). s.var == var && test s.elem) xs
at_var test var xs =
    any_map test (λ (s : Stand). s.elem) (filter (λ (s : Stand). s.var == var) xs) ∙ any_filter (λ (s : Stand). test s.elem) (λ (s : Stand). s.var == var) xs

pub itself : (x : Elem) → same_elem x x ≡ true
itself x = ap is_eq (tied_itself elem_cmp_total x)

-- ---- elements in order among others

one_counted : (f : Elem → ℕ) (x : Elem) (ys : List Elem) → list_any (same_elem x) ys ≡ true → f x ≤ sum_by f (filter (same_elem x) ys)
one_counted f x [] some = absurd (true≢false (sym some))
one_counted f x (y ∷ ys) some = by (same_elem x y) refl (one_counted f x ys) some
  where
    by : (b : Bool) → same_elem x y ≡ b → (list_any (same_elem x) ys ≡ true → f x ≤ sum_by f (filter (same_elem x) ys)) → (b || list_any (same_elem x) ys) ≡ true →
        f x ≤ sum_by f (cond b (y ∷ filter (same_elem x) ys) (filter (same_elem x) ys))
    by true is rest some =
        let same : x ≡ y = exact_elem x y ((Equal-is (elem_cmp x y)).0 is) in
        let alike : f x ≡ f y = ap f same in
        let cons = sum_by-cons f y (filter (same_elem x) ys) in
        omega (arith, cons, alike)
    by false is rest some = rest some

unlike : (order : Ordering) → is_lt order ≡ true → not (is_eq order) ≡ true
unlike Less below = refl
unlike Equal below = absurd (true≢false (sym below))
unlike Greater below = refl

stays : (x z : Elem) (ys : List Elem) → is_lt (elem_cmp x z) ≡ true → list_any (same_elem z) ys ≡ true → list_any (same_elem z) (filter (λ y. not (same_elem x y)) ys) ≡ true
stays x z ys below some =
    let it = Any-from_list_any (same_elem z) ys some in
    let same : z ≡ it.1 = exact_elem z it.1 ((Equal-is (elem_cmp z it.1)).0 it.4) in
    any_filter (same_elem z) (λ y. not (same_elem x y)) ys
    ∙ list_any_at (λ y. not (same_elem x y) && same_elem z y) ys it.0 it.1 it.2
    (ap (λ y. not (same_elem x y) && same_elem z y) it.3 ∙ and_from _ _ (subst (λ y. not (same_elem x y) ≡ true) same (unlike (elem_cmp x z) below)) it.4)

all_stay : (x : Elem) (xs ys : List Elem) → list_all (λ later. is_lt (elem_cmp x later)) xs ≡ true → list_all (λ z. list_any (same_elem z) ys) xs ≡ true →
    list_all (λ z. list_any (same_elem z) (filter (λ y. not (same_elem x y)) ys)) xs ≡ true
all_stay x [] ys above all = refl
all_stay x (z ∷ xs) ys above all =
    let first = and_parts (is_lt (elem_cmp x z)) _ above in
    let here = and_parts (list_any (same_elem z) ys) _ all in
    and_from _ _ (stays x z ys first.0 here.0) (all_stay x xs ys first.1 here.1)

-- whatever is counted of each, the sum over elements in order is no greater than over others among which all of them are
pub sum_among : (f : Elem → ℕ) (xs ys : List Elem) → ascends elem_cmp xs ≡ true → list_all (λ x. list_any (same_elem x) ys) xs ≡ true → sum_by f xs ≤ sum_by f ys
sum_among f [] ys rising all = omega arith
sum_among f (x ∷ xs) ys rising all =
    let order = and_parts (list_all (λ later. is_lt (elem_cmp x later)) xs) _ rising in
    let here = and_parts (list_any (same_elem x) ys) _ all in
    let rest = sum_among f xs (filter (λ y. not (same_elem x y)) ys) order.1 (all_stay x xs ys order.0 here.1) in
    let both = sum_by-filter_both (same_elem x) (λ y. not (same_elem x y)) (λ y. refl) f ys in
    let one = one_counted f x ys here.0 in
    let cons = sum_by-cons f x xs in
    omega (arith, rest, both, one, cons)

-- ---- one step

module _ (resolved : Resolved) (g : Graph) (atoms : List Atom) (step : Step) where
  pub step_once : (stands pairs : List Stand) (once : List Elem) (start now : ℕ) → ascends elem_cmp once ≡ true →
      ((elem : Elem) → Contains once elem → Contains (elems_at (bound_by step) stands) elem) → ((test : Stand → Bool) → list_any test stands ≡ true → list_any test pairs ≡ true) →
      now ≤ start + sum_by (back_most g step) once → now ≤ start + sum_by (one_most g step) pairs
  step_once stands pairs once start now rising none_other all cost =
      let var = bound_by step in
      let here : (elem : Elem) → Contains once elem → list_any (same_elem elem) (elems_at var pairs) ≡ true =
      λ elem it.
      let own = none_other elem it in
      at_var (same_elem elem) var pairs
      ∙ all (λ (s : Stand). s.var == var && same_elem elem s.elem)
      (sym (at_var (same_elem elem) var stands) ∙ list_any_at (same_elem elem) (elems_at var stands) own.0 elem own.1 (ap (same_elem elem) own.2 ∙ itself elem)) in
      let less = sum_among (back_most g step) once (elems_at var pairs) rising (each_passes (λ x. list_any (same_elem x) (elems_at var pairs)) once here) in
      let same = most_parts resolved g atoms step pairs in
      omega (arith, less, same, cost)

-- ---- a plan

module _ (resolved : Resolved) (g : Graph) (atoms : List Atom) where
  pub passed_rest : (step : Step) (plan : List Step) (starts pairs : List Stand) → HasPassed resolved g atoms (step ∷ plan) starts pairs → HasPassed resolved g atoms plan starts pairs
  passed_rest step plan starts pairs passed = (passed.0, λ other it. passed.1 other (suc it.0, omega (arith, it.1), it.2))

  -- what is led back to is among the pairs
  led_within : (plan : List Step) (starts pairs : List Stand) → HasPassed resolved g atoms plan starts pairs → (test : Stand → Bool) →
      list_any test (flat_map (led_back resolved g atoms plan) starts) ≡ true → list_any test pairs ≡ true
  led_within [] starts pairs passed test some = within starts pairs passed.0 test (sym (ap (list_any test) (led_none resolved g atoms starts)) ∙ some)
  led_within (step ∷ plan) starts pairs passed test some =
      let before = led_within plan starts pairs (passed_rest step plan starts pairs passed) (λ s. list_any test (one_back resolved g atoms step s))
      (sym (any_twice resolved g atoms step plan starts test starts) ∙ some) in
      let it = Any-from_list_any (λ s. list_any test (one_back resolved g atoms step s)) pairs before in
      within (one_back resolved g atoms step it.1) pairs (passed.1 step (0, omega arith, refl) it.1 (it.0, it.2, it.3)) test it.4

  pub far_within : (plan : List Step) (starts pairs far : List Stand) → HasPassed resolved g atoms plan starts pairs →
      ((count : Stand → ℕ) → sum_by count far ≤ sum_by count (flat_map (led_back resolved g atoms plan) starts)) → (test : Stand → Bool) → list_any test far ≡ true → list_any test pairs ≡ true
  far_within plan starts pairs far passed fewer test some =
      led_within plan starts pairs passed test (among far (flat_map (led_back resolved g atoms plan) starts) fewer test some)

-- a step before others
pub once_cost : (g : Graph) (step : Step) (plan : List Step) (pairs : List Stand) (start mid now : ℕ) → mid ≤ start + once_most g plan pairs → now ≤ mid + sum_by (one_most g step) pairs →
    now ≤ start + once_most g (step ∷ plan) pairs
once_cost g step plan pairs start mid now first second = let cons = sum_by-cons (λ s. sum_by (one_most g s) pairs) step plan in omega (arith, first, second, cons)

pub once_cost_before : (g : Graph) (step : Step) (plan : List Step) (pairs : List Stand) (start mid : ℕ) → mid ≤ start + once_most g plan pairs → mid ≤ start + once_most g (step ∷ plan) pairs
once_cost_before g step plan pairs start mid first = let cons = sum_by-cons (λ s. sum_by (one_most g s) pairs) step plan in omega (arith, first, cons)

-- ---- each variable is bound by one step

back_less : (g : Graph) (step : Step) (elem : Elem) → back_most g step elem ≤ 4 * (elem_degree g elem + 2)
back_less g (Along edge node forward) (Edge id) = omega arith
back_less g (Along edge node forward) (Node id) = omega arith
back_less g (End edge node true) (Node id) = omega arith
back_less g (End edge node false) (Node id) = omega arith
back_less g (End edge node source) (Edge id) = omega arith

no_steps : {X : Type 0} (xs : List X) → sum_by (λ x. 0) xs ≡ 0
no_steps [] = refl
no_steps (x ∷ xs) = let rest = no_steps xs in let cons = sum_by-cons (λ y. 0) x xs in omega (arith, rest, cons)

steps_of_one : (g : Graph) (plan : List Step) (stand : Stand) (stands : List Stand) →
    once_most g plan (stand ∷ stands) ≡ sum_by (λ step. one_most g step stand) plan + once_most g plan stands
steps_of_one g [] stand stands = refl
steps_of_one g (step ∷ plan) stand stands =
    let rest = steps_of_one g plan stand stands in
    let all = sum_by-cons (λ s. sum_by (one_most g s) (stand ∷ stands)) step plan in
    let first = sum_by-cons (λ s. one_most g s stand) step plan in
    let others = sum_by-cons (λ s. sum_by (one_most g s) stands) step plan in
    let both = sum_by-cons (one_most g step) stand stands in
    omega (arith, rest, all, first, others, both)

module _ (resolved : Resolved) (g : Graph) (pattern : Pattern) (valid : is_valid_pattern pattern ≡ true) where
  one_step : (plan : List Step) (known : List Bool) (stand : Stand) → length known ≡ 20 → are_steps pattern.atoms known plan ≡ true →
      sum_by (λ step. one_most g step stand) plan ≤ cond (is_known known stand.var) 0 (4 * (elem_degree g stand.elem + 2))
  one_step [] known stand size steps = omega arith
  one_step (step ∷ plan) known stand size steps =
      let parts = and_parts (is_step pattern.atoms known step) _ steps in
      let facts = step_facts resolved g pattern valid known step parts.0 in
      let var = bound_by step in
      let rest = one_step plan (and_known known var) stand (length-set known var true ∙ size) parts.1 in
      let cons = sum_by-cons (λ s. one_most g s stand) step plan in
      let below : var < length known = omega (arith, size, facts.0) in
      by (stand.var == var) refl cons facts.1 (known_now known var below) rest
    where
      most : ℕ
      most = 4 * (elem_degree g stand.elem + 2)

      by : (b : Bool) → (stand.var == bound_by step) ≡ b →
          sum_by (λ s. one_most g s stand) (step ∷ plan) ≡ one_most g step stand + sum_by (λ s. one_most g s stand) plan →
          is_known known (bound_by step) ≡ false → is_known (and_known known (bound_by step)) (bound_by step) ≡ true →
          sum_by (λ s. one_most g s stand) plan ≤ cond (is_known (and_known known (bound_by step)) stand.var) 0 most →
          sum_by (λ s. one_most g s stand) (step ∷ plan) ≤ cond (is_known known stand.var) 0 most
      by true is cons new now rest =
          let same : stand.var ≡ bound_by step = eqb-true stand.var (bound_by step) is in
          let one : one_most g step stand ≡ back_most g step stand.elem = ap (λ b. cond b (back_most g step stand.elem) 0) is in
          let less = back_less g step stand.elem in
          let none : cond (is_known (and_known known (bound_by step)) stand.var) 0 most ≡ 0 = ap (λ v. cond (is_known (and_known known (bound_by step)) v) 0 most) same ∙ ap (λ b. cond b 0 most) now in
          let all : cond (is_known known stand.var) 0 most ≡ most = ap (λ v. cond (is_known known v) 0 most) same ∙ ap (λ b. cond b 0 most) new in
          omega (arith, cons, one, less, none, all, rest)
      by false is cons new now rest =
          let apart : stand.var ≢ bound_by step = λ same. true≢false (sym (eq-eqb stand.var (bound_by step) same) ∙ is) in
          let one : one_most g step stand ≡ 0 = ap (λ b. cond b (back_most g step stand.elem) 0) is in
          let still : cond (is_known (and_known known (bound_by step)) stand.var) 0 most ≡ cond (is_known known stand.var) 0 most = ap (λ b. cond b 0 most) (known_other known (bound_by step) stand.var apart) in
          omega (arith, cons, one, still, rest)

  pub once_less : (plan : List Step) (known : List Bool) → length known ≡ 20 → are_steps pattern.atoms known plan ≡ true → (pairs : List Stand) →
      once_most g plan pairs ≤ 4 * sum_by (λ (s : Stand). elem_degree g s.elem + 2) pairs
  once_less plan known size steps [] = let none = no_steps plan in omega (arith, none)
  once_less plan known size steps (stand ∷ stands) =
      let rest = once_less plan known size steps stands in
      let parts = steps_of_one g plan stand stands in
      let one = one_step plan known stand size steps in
      let cons = sum_by-cons (λ (s : Stand). elem_degree g s.elem + 2) stand stands in
      let most = at_most (is_known known stand.var) (4 * (elem_degree g stand.elem + 2)) in
      omega (arith, rest, parts, one, cons, most)
    where
      at_most : (b : Bool) (n : ℕ) → cond b 0 n ≤ n
      at_most true n = omega arith
      at_most false n = omega arith
