-- What stands at the first variable in the end, where one went back from starts by the steps of a plan: what the matches reach from them; near them,
-- and little where few edges are near.
use Rattle.std.proofs.Common.{◌≡◌, ℕ, zero, suc, ◌+◌, ◌*◌, ◌^◌, ◌≤◌, ◌<◌, Bool, true, false, ◌&&◌, ◌==◌, cond, List, [], ◌∷◌, ◌++◌, filter, map, flat_map, length, get_or, slice_get, Some, refl, sym, ◌∙◌, ap, subst, arith}
use Rattle.std.specs.Prelude.{nat_lt}
use Rattle.std.specs.List.{list_any, list_all, sum_by, Contains}
use Rattle.std.specs.Cmp.{Equal-is}
use Rattle.std.proofs.lemmas.Bool.{and_parts, and_from, ltb-true, eq-eqb}
use Rattle.std.proofs.lemmas.List.Elements.{All-contains_itself, All-weaker, filter_passes}
use Rattle.std.proofs.lemmas.List.Folds.{list_any_at, Any-from_list_any}
use Rattle.std.proofs.lemmas.List.Sums.{sum_by-cons, sum_by-le}
use Rattle.pgs_base.specs.declared.element.Elem.{Elem}
use Rattle.pgs_base.specs.Graph.{Graph, is_graph}
use Rattle.pgs_base.specs.Order.{elem_cmp}
use Rattle.pgs_base.specs.OrderLaws.{exact_elem}
use Rattle.pgs_syntax.specs.declared.pattern.Pattern.{Pattern}
use Rattle.pgs_syntax.specs.declared.resolved.Resolved.{Resolved}
use Rattle.pgs_syntax.specs.KeyValues.{starts_at}
use Rattle.pgs_syntax.specs.Matches.{same_elem, elements}
use Rattle.pgs_syntax.specs.Valid.{edge_count, is_valid_pattern}
use Rattle.pgs_syntax.proofs.Assigned.{match_found}
use Rattle.pgs_syntax.proofs.Halves.{any_flat_map}
use Rattle.pgs_match.specs.declared.step.Step.{Step}
use Rattle.pgs_match.specs.declared.stand.Stand.{Stand}
use Rattle.pgs_match.specs.Bounds.{stands_at}
use Rattle.pgs_match.specs.Near.{is_at_element}
use Rattle.pgs_match.specs.Plans.{known_alone, are_steps, is_plan}
use Rattle.pgs_match.specs.Reached.{reaches, reached}
use Rattle.pgs_match.specs.Spread.{elems_at, led_back, led_most, IsNearSome, AreSparseFrom, are_in_range}
use Rattle.pgs_match.proofs.Leading.{sum_flat}
use Rattle.pgs_match.proofs.Led.{root, ups, StandsNear, climbs, each_any, led_near, led_few_of, led_most_of}
use Rattle.pgs_match.proofs.LedMatches.{leads}
use Rattle.pgs_match.proofs.Nearby.{within_less}
use Rattle.pgs_match.proofs.Passed.{among, at_var, itself}
use Rattle.pgs_match.proofs.Walked.{stands}

-- ---- counts

pub sum_ones : {X : Type 0} (xs : List X) → sum_by (λ x. 1) xs ≡ length xs
sum_ones [] = refl
sum_ones (x ∷ xs) = let rest = sum_ones xs in let cons = sum_by-cons (λ y. 1) x xs in omega (arith, rest, cons)

sum_within : {X : Type 0} (f : X → ℕ) (most : ℕ) (xs : List X) → ((x : X) → Contains xs x → f x ≤ most) → sum_by f xs ≤ length xs * most
sum_within f most xs less = sum_by-le f most xs (All-weaker (Contains xs) (λ x. f x ≤ most) less xs (All-contains_itself xs))

few_at_var : (var : ℕ) (xs : List Stand) → length (elems_at var xs) ≤ sum_by (λ x. 1) xs
few_at_var var [] = omega arith
few_at_var var (x ∷ xs) = by (x.var == var) (few_at_var var xs)
  where
    by : (b : Bool) → length (elems_at var xs) ≤ sum_by (λ y. 1) xs →
        length (map (λ (s : Stand). s.elem) (cond b (x ∷ filter (λ (s : Stand). s.var == var) xs) (filter (λ (s : Stand). s.var == var) xs))) ≤ sum_by (λ y. 1) (x ∷ xs)
    by true rest = let cons = sum_by-cons (λ y. 1) x xs in omega (arith, cons, rest)
    by false rest = let cons = sum_by-cons (λ y. 1) x xs in omega (arith, cons, rest)

passes_each : {X : Type 0} (test : X → Bool) (xs : List X) → list_all test xs ≡ true → (x : X) → Contains xs x → test x ≡ true
passes_each {X} test xs all x it = sym (ap test it.2) ∙ at xs all it.0 it.1
  where
    at : (ys : List X) → list_all test ys ≡ true → (k : ℕ) → k < length ys → test (get_or ys k x) ≡ true
    at [] all k below = absurd (omega (arith, below))
    at (y ∷ ys) all zero below = (and_parts (test y) _ all).0
    at (y ∷ ys) all (suc k) below = at ys (and_parts (test y) _ all).1 k (omega (arith, below))

pub contains_it : (xs : List Elem) (x : Elem) → list_any (same_elem x) xs ≡ true → Contains xs x
contains_it xs x some =
    let it = Any-from_list_any (same_elem x) xs some in
    let same : x ≡ it.1 = exact_elem x it.1 ((Equal-is (elem_cmp x it.1)).0 it.4) in
    subst (Contains xs) (sym same) (it.0, it.2, it.3)

-- ---- from all starts

module _ (resolved : Resolved) (g : Graph) (pattern : Pattern) (valid : is_valid_pattern pattern ≡ true) (plan : List Step) (plans : is_plan pattern 0 plan ≡ true) (starts : List Stand)
    (inside : are_in_range pattern starts ≡ true) where
  abbrev led : Stand → List Stand
  led = led_back resolved g pattern.atoms plan

  below_of : (start : Stand) → Contains starts start → start.var < length pattern.edge_vars
  below_of start it = ltb-true start.var (length pattern.edge_vars) (passes_each (λ (s : Stand). nat_lt s.var (length pattern.edge_vars)) starts inside start it)

  module _ (ends : List Stand) (every : (test : Stand → Bool) → list_any test (flat_map led starts) ≡ true → list_any test ends ≡ true) where
    pub reached_stands : (start : Stand) → Contains starts start → (elem : Elem) → Contains (reached resolved g pattern start.var start.elem) elem → Contains (elems_at 0 ends) elem
    reached_stands start own elem it =
        let reach = reaches resolved g pattern start.var start.elem in
        let does = sym (ap reach it.2) ∙ filter_passes reach (elements g false ++ elements g true) it.0 elem it.1 in
        let found = match_found resolved g pattern (λ elems. stands_at start.var start.elem elems && starts_at elem elems) does in
        let both = and_parts (stands_at start.var start.elem found.0) _ found.2 in
        let at = stands start.var start.elem found.0 both.0 in
        let first = stands 0 elem found.0 both.1 in
        let up = climbs resolved g pattern valid plan plans start.var (below_of start own) in
        let test : Stand → Bool = λ (s : Stand). s.var == 0 && same_elem elem s.elem in
        let passes : (other : Elem) → slice_get found.0 (root plan start.var) ≡ Some other → test (record { var = root plan start.var; elem = other }) ≡ true =
        λ other there. and_from _ _ (eq-eqb (root plan start.var) 0 up.0)
        (let e : Some elem ≡ Some other = sym first ∙ ap (slice_get found.0) (sym up.0) ∙ there in let same : elem ≡ other = cc in ap (same_elem elem) (sym same) ∙ itself elem) in
        let led_here = leads resolved g pattern valid found.0 found.1 plan (known_alone 0) (and_parts (are_steps pattern.atoms (known_alone 0) plan) _ plans).0 start.var start.elem at test passes in
        contains_it (elems_at 0 ends) elem
        (at_var (same_elem elem) 0 ends
        ∙ every test (any_flat_map test led starts ∙ list_any_at (λ s. list_any test (led s)) starts own.0 start own.1 (ap (λ s. list_any test (led s)) own.2 ∙ led_here)))

  module _ (graph : is_graph g ≡ true) (w : ℕ) (within : edge_count pattern.edge_vars ≤ w) (ends : List Stand) (fewer : (count : Stand → ℕ) → sum_by count ends ≤ sum_by count (flat_map led starts)) where
    pub stands_near : (elem : Elem) → Contains (elems_at 0 ends) elem → IsNearSome g w starts elem
    stands_near elem it =
        let test : Stand → Bool = λ (s : Stand). s.var == 0 && same_elem elem s.elem in
        let there = sym (at_var (same_elem elem) 0 ends) ∙ list_any_at (same_elem elem) (elems_at 0 ends) it.0 elem it.1 (ap (same_elem elem) it.2 ∙ itself elem) in
        let some = Any-from_list_any (λ s. list_any test (led s)) starts (sym (any_flat_map test led starts) ∙ among ends (flat_map led starts) fewer test there) in
        let start = some.1 in
        let own : Contains starts start = (some.0, some.2, some.3) in
        let up = climbs resolved g pattern valid plan plans start.var (below_of start own) in
        let here = each_any (StandsNear resolved g graph pattern start.elem (root plan start.var) (ups plan start.var)) test (led start) (led_near resolved g graph pattern start.elem plan start.var) some.4 in
        let is = (and_parts (here.0.var == 0) _ here.2).1 in
        let same : elem ≡ here.0.elem = exact_elem elem here.0.elem ((Equal-is (elem_cmp elem here.0.elem)).0 is) in
        (start, own, λ id at. within_less g start.elem (ups plan start.var) w id (omega (arith, up.1, within)) (here.1.1 id (subst (λ e. is_at_element g e id ≡ true) same at)))

    module _ (d : ℕ) (sparse : AreSparseFrom g w starts d) where
      pub stands_few : length (elems_at 0 ends) ≤ length starts * (d + 2) ^ w
      stands_few =
          let here = few_at_var 0 ends in
          let less = fewer (λ s. 1) in
          let whole = sum_flat (λ (s : Stand). 1) led starts in
          let each = sum_within (λ s. sum_by (λ (t : Stand). 1) (led s)) ((d + 2) ^ w) starts (λ s own. one s own) in
          omega (arith, here, less, whole, each)
        where
          one : (s : Stand) → Contains starts s → sum_by (λ (t : Stand). 1) (led s) ≤ (d + 2) ^ w
          one s own =
              let size = sum_ones (led s) in
              let few = led_few_of resolved g graph pattern s.elem w d (sparse s own) valid within plan plans s.var (below_of s own) in
              omega (arith, size, few)

  module _ (graph : is_graph g ≡ true) (w : ℕ) (within : edge_count pattern.edge_vars ≤ w) (d : ℕ) (sparse : AreSparseFrom g w starts d) where
    pub stands_cost : sum_by (led_most resolved g pattern.atoms plan) starts ≤ length starts * (8 * (d + 2) ^ w)
    stands_cost =
        sum_within (led_most resolved g pattern.atoms plan) (8 * (d + 2) ^ w) starts
        (λ s own. led_most_of resolved g graph pattern s.elem w d (sparse s own) valid within plan plans s.var (below_of s own))
