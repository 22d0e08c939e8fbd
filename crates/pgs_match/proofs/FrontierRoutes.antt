-- The routes along a path to one variable: the tuples under them are those of its ends, and each end takes no more look-ups than its routes.
use Rattle.std.proofs.Common.{◌≡◌, ⊎_elim, ℕ, ◌+◌, ◌*◌, ◌<◌, ◌≤◌, Bool, true, false, ◌&&◌, ◌||◌, ◌==◌, not, cond, List, [], ◌∷◌, flat_map, length, length-append, map, filter, fold, nat_lt, Option, Some, None, refl, sym, ◌∙◌, ap, subst, true≢false, arith}
use Rattle.std.specs.Prelude.{option_and_then, option_map}
use Rattle.std.specs.Option.{option_map_or}
use Rattle.std.specs.List.{list_any, list_all, filter_map, cons_option, sum_by}
use Rattle.std.specs.BTreeMap.{is_at}
use Rattle.std.proofs.Math.Nat.{mul-add}
use Rattle.std.proofs.lemmas.Bool.{and_parts, or_cases, eqb-true, eq-eqb, or_parts, not-true, ltb-true}
use Rattle.std.proofs.lemmas.List.{length-set}
use Rattle.std.proofs.lemmas.List.Folds.{fold-map}
use Rattle.std.proofs.lemmas.List.Sums.{sum_by-cons}
use Rattle.pgs_base.specs.declared.part.Part.{Part}
use Rattle.pgs_base.specs.declared.part.Part.TheVariants as parts
use Rattle.pgs_base.specs.declared.row.NodeRow.{NodeRow}
use Rattle.pgs_base.specs.Graph.{Graph}
use Rattle.pgs_base.specs.Order.{tuple_cmp}
use Rattle.pgs_base.specs.OrderLaws.{tuple_cmp_total, exact_tuple}
use Rattle.pgs_base.specs.Pair.{value_at}
use Rattle.pgs_base.proofs.Ascending.{ascending_none}
use Rattle.pgs_base.proofs.Lookups.{same_keys}
use Rattle.pgs_syntax.specs.declared.pattern.Atom.{Atom}
use Rattle.pgs_syntax.specs.declared.pattern.Expr.{Expr}
use Rattle.pgs_syntax.specs.declared.pattern.Expr.TheVariants.{Element, Property}
use Rattle.pgs_syntax.specs.declared.resolved.Resolved.{Resolved}
use Rattle.pgs_syntax.specs.Matches.{carried}
use Rattle.pgs_syntax.specs.Valid.{read_var}
use Rattle.pgs_syntax.proofs.Halves.{any_map, any_flat_map, any_filter, any_same}
use Rattle.pgs_match.specs.declared.step.Step.{Step}
use Rattle.pgs_match.specs.declared.step.Step.TheVariants.{Along, End}
use Rattle.pgs_match.specs.declared.bindings.Bound.{Bound}
use Rattle.pgs_match.specs.Answers.{is_bound_in}
use Rattle.pgs_match.specs.Bounds.{elem_of, bound_at, with_bound, nothing_bound, end_at}
use Rattle.pgs_match.specs.Branches.{can_be_given, next_bounds, asked_most}
use Rattle.pgs_match.specs.Frontier.{kept_bounds, led_on, on_most, AreAllOf, is_path, end_var, leads_to_one}
use Rattle.pgs_match.specs.Plans.{bound_by}
use Rattle.pgs_match.specs.Routes.{whole, routes, way_most, with_tuple}
use Rattle.pgs_match.specs.Search.{edges_along, part_at, tuple_at}
use Rattle.pgs_match.specs.Tests.{admitted_node, admitted_edge}
use Rattle.pgs_match.proofs.Branching.{any_filter_map, any_of_one}
use Rattle.pgs_match.proofs.Gathered.{gives}
use Rattle.pgs_match.proofs.Passed.{within}
use Rattle.pgs_match.proofs.Standing.{bound_now, bound_other, one_or_other}
use Rattle.pgs_match.proofs.Started.{same_truth}
use Rattle.pgs_match.proofs.WayValues.{all_ascend, has_all}

-- ---- what expressions give

-- by the variables that they take
part_by : (g : Graph) (b c : List (Option Bound)) (expr : Expr) → bound_at b (read_var expr) ≡ bound_at c (read_var expr) → part_at g b expr ≡ part_at g c expr
part_by g b c (Element var) same = ap (option_map (λ bound. parts.Elem (elem_of bound))) same
part_by g b c (Property var key) same =
    ap (λ o. option_map parts.Value (option_and_then (λ (own : NodeRow). value_at key own.props) (option_and_then (λ bound. carried g (elem_of bound)) o))) same

tuple_by : (g : Graph) (b c : List (Option Bound)) (one other : ℕ) → bound_at b one ≡ bound_at c one → bound_at b other ≡ bound_at c other → (exprs : List Expr) →
    list_all (λ (expr : Expr). read_var expr == one || read_var expr == other) exprs ≡ true → tuple_at g exprs b ≡ tuple_at g exprs c
tuple_by g b c one other first second [] reads = refl
tuple_by g b c one other first second (expr ∷ exprs) reads =
    let parts = and_parts (read_var expr == one || read_var expr == other) _ reads in
    let same : bound_at b (read_var expr) ≡ bound_at c (read_var expr) =
    ⊎_elim (λ h. subst (λ v. bound_at b v ≡ bound_at c v) (sym (eqb-true (read_var expr) one h)) first) (λ h. subst (λ v. bound_at b v ≡ bound_at c v) (sym (eqb-true (read_var expr) other h)) second)
    (or_cases (read_var expr == one) (read_var expr == other) parts.0) in
    ap (option_and_then (λ part. option_map (λ rest. part ∷ rest) (tuple_at g exprs b))) (part_by g b c expr same)
    ∙ ap (λ rest_of. option_and_then (λ part. option_map (λ rest. part ∷ rest) rest_of) (part_at g c expr)) (tuple_by g b c one other first second exprs parts.1)

-- ---- the ends of routes

end_below : (ways : List Step) (at : ℕ) → at < 20 → list_all (λ step. nat_lt (bound_by step) 20) ways ≡ true → end_var at ways < 20
end_below [] at below all = below
end_below (step ∷ ways) at below all =
    let parts = and_parts (nat_lt (bound_by step) 20) _ all in end_below ways (bound_by step) (ltb-true (bound_by step) 20 parts.0) parts.1

module _ (resolved : Resolved) (g : Graph) (atoms : List Atom) (off : List Step) (start : ℕ) (first : Bound) (test : List (Option Bound) → Bool) (by_end : Bound → Bool) where
  -- a test goes by the bindings of two variables
  abbrev GoesBy : ℕ → Type 0
  GoesBy end = (b : List (Option Bound)) (x : Bound) → bound_at b start ≡ Some first → bound_at b end ≡ Some x → test b ≡ by_end x

  any_whole : (var : ℕ) (routes_of : Bound → List (List (Option Bound))) (ends_of : Bound → List Bound) → ((x : Bound) → list_any test (routes_of x) ≡ list_any by_end (ends_of x)) → (o : Option Bound) →
      list_any test (option_map_or routes_of (whole resolved g atoms off var o) []) ≡ option_map_or (λ x. can_be_given resolved g atoms off var x && list_any by_end (ends_of x)) o false
  any_whole var routes_of ends_of same None = refl
  any_whole var routes_of ends_of same (Some x) = by (can_be_given resolved g atoms off var x)
    where
      by : (b : Bool) → list_any test (option_map_or routes_of (cond b (Some x) None) []) ≡ (b && list_any by_end (ends_of x))
      by true = same x
      by false = refl

  routes_ends : (ways : List Step) (at : ℕ) (b : List (Option Bound)) (x : Bound) → length b ≡ 20 → bound_at b start ≡ Some first → bound_at b at ≡ Some x → is_path at ways ≡ true →
      is_bound_in ways start ≡ false → list_all (λ step. nat_lt (bound_by step) 20) ways ≡ true → GoesBy (end_var at ways) →
      list_any test (routes resolved g atoms off ways b) ≡ list_any by_end (led_on resolved g atoms off ways x)
  routes_ends [] at b x size begin here path none below goes = ap (λ t. t || false) (goes b x begin here)
  routes_ends (Along edge node forward ∷ ways) at b x size begin here path none below goes =
      let steps = and_parts (node == at) _ path in
      let other = or_parts (edge == start) _ none in
      let small = and_parts (nat_lt edge 20) _ below in
      let inside : edge < length b = let less = ltb-true edge 20 small.0 in omega (arith, less, size) in
      let from : bound_at b node ≡ Some x = ap (bound_at b) (eqb-true node at steps.0) ∙ here in
      let next : (y : Bound) → list_any test (routes resolved g atoms off ways (with_bound b edge y)) ≡ list_any by_end (led_on resolved g atoms off ways y) =
      λ y. routes_ends ways edge (with_bound b edge y) y (length-set b edge (Some y) ∙ size)
      (bound_other b edge start y (λ same. true≢false (sym (eq-eqb edge start (sym same)) ∙ other.0)) ∙ begin) (bound_now b edge y inside) steps.1 other.1 small.1 goes in
      let ends : Bound → Bool = λ y. can_be_given resolved g atoms off edge y && list_any by_end (led_on resolved g atoms off ways y) in
      any_flat_map test (λ id. option_map_or (λ y. routes resolved g atoms off ways (with_bound b edge y)) (whole resolved g atoms off edge (admitted_edge resolved g atoms edge id)) [])
      (edges_along g forward (bound_at b node))
      ∙ any_same (λ id. list_any test (option_map_or (λ y. routes resolved g atoms off ways (with_bound b edge y)) (whole resolved g atoms off edge (admitted_edge resolved g atoms edge id)) []))
      (λ id. option_map_or ends (admitted_edge resolved g atoms edge id) false)
      (λ id. any_whole edge (λ y. routes resolved g atoms off ways (with_bound b edge y)) (led_on resolved g atoms off ways) next (admitted_edge resolved g atoms edge id))
      (edges_along g forward (bound_at b node))
      ∙ ap (λ o. list_any (λ id. option_map_or ends (admitted_edge resolved g atoms edge id) false) (edges_along g forward o)) from
      ∙ sym (any_filter_map ends (admitted_edge resolved g atoms edge) (edges_along g forward (Some x)))
      ∙ sym (any_filter (λ y. list_any by_end (led_on resolved g atoms off ways y)) (can_be_given resolved g atoms off edge) (next_bounds resolved g atoms (Along edge node forward) x))
      ∙ sym (any_flat_map by_end (led_on resolved g atoms off ways) (kept_bounds resolved g atoms off (Along edge node forward) x))
  routes_ends (End edge node source ∷ ways) at b x size begin here path none below goes =
      let steps = and_parts (edge == at) _ path in
      let other = or_parts (node == start) _ none in
      let small = and_parts (nat_lt node 20) _ below in
      let inside : node < length b = let less = ltb-true node 20 small.0 in omega (arith, less, size) in
      let from : bound_at b edge ≡ Some x = ap (bound_at b) (eqb-true edge at steps.0) ∙ here in
      let next : (y : Bound) → list_any test (routes resolved g atoms off ways (with_bound b node y)) ≡ list_any by_end (led_on resolved g atoms off ways y) =
      λ y. routes_ends ways node (with_bound b node y) y (length-set b node (Some y) ∙ size)
      (bound_other b node start y (λ same. true≢false (sym (eq-eqb node start (sym same)) ∙ other.0)) ∙ begin) (bound_now b node y inside) steps.1 other.1 small.1 goes in
      let ends : Bound → Bool = λ y. can_be_given resolved g atoms off node y && list_any by_end (led_on resolved g atoms off ways y) in
      any_whole node (λ y. routes resolved g atoms off ways (with_bound b node y)) (led_on resolved g atoms off ways) next
      (option_and_then (admitted_node resolved g atoms node) (end_at source (bound_at b edge)))
      ∙ ap (λ o. option_map_or ends (option_and_then (admitted_node resolved g atoms node) (end_at source o)) false) from
      ∙ sym (any_of_one ends (option_and_then (admitted_node resolved g atoms node) (end_at source (Some x))))
      ∙ sym (any_filter (λ y. list_any by_end (led_on resolved g atoms off ways y)) (can_be_given resolved g atoms off node) (next_bounds resolved g atoms (End edge node source) x))
      ∙ sym (any_flat_map by_end (led_on resolved g atoms off ways) (kept_bounds resolved g atoms off (End edge node source) x))

-- ---- the tuples under them

-- the first variable is bound, and the one at the end of a way
abbrev start_bound : ℕ → Bound → List (Option Bound)
start_bound var bound = with_bound nothing_bound var bound

abbrev both_bound : ℕ → Bound → ℕ → Bound → List (Option Bound)
both_bound var bound other end = with_bound (start_bound var bound) other end

module _ (g : Graph) (exprs : List Expr) (var : ℕ) (bound : Bound) (other : ℕ) (below : var < 20) (inside : other < 20) where
  size_start : length (start_bound var bound) ≡ 20
  size_start = length-set nothing_bound var (Some bound)

  start_now : bound_at (start_bound var bound) var ≡ Some bound
  start_now = bound_now nothing_bound var bound below

  end_now : (end : Bound) → bound_at (both_bound var bound other end) other ≡ Some end
  end_now end = bound_now (start_bound var bound) other end (omega (arith, size_start, inside))

  -- bindings with these two variables so give the same tuple
  same_tuple : list_all (λ (expr : Expr). read_var expr == var || read_var expr == other) exprs ≡ true → (b : List (Option Bound)) (end : Bound) → bound_at b var ≡ Some bound → bound_at b other ≡ Some end →
      tuple_at g exprs b ≡ tuple_at g exprs (both_bound var bound other end)
  same_tuple reads b end first last = tuple_by g b (both_bound var bound other end) var other (first ∙ sym begin) (last ∙ sym (end_now end)) exprs reads
    where
      begin : bound_at (both_bound var bound other end) var ≡ Some bound
      begin = ⊎_elim (λ same. ap (bound_at (both_bound var bound other end)) same ∙ end_now end ∙ sym last ∙ ap (bound_at b) (sym same) ∙ first)
          (λ apart. bound_other (start_bound var bound) other var end apart ∙ start_now) (one_or_other var other)

module _ (resolved : Resolved) (g : Graph) (atoms : List Atom) (off : List Step) (exprs : List Expr) (ways : List Step) (var : ℕ) (bound : Bound) (found : List Bound) (below : var < 20)
    (all : list_all (λ step. nat_lt (bound_by step) 20) ways ≡ true) (leads : leads_to_one var ways exprs ≡ true) (same : AreAllOf (led_on resolved g atoms off ways bound) found) where
  abbrev ends_of : List (List (Option Bound))
  ends_of = map (both_bound var bound (end_var var ways)) found

  abbrev routes_of : List (List (Option Bound))
  routes_of = routes resolved g atoms off ways (start_bound var bound)

  any_found : (test : Bound → Bool) → list_any test found ≡ list_any test (led_on resolved g atoms off ways bound)
  any_found test =
      same_truth (list_any test found) (list_any test (led_on resolved g atoms off ways bound)) (within found (led_on resolved g atoms off ways bound) same.1 test)
      (within (led_on resolved g atoms off ways bound) found same.0 test)

  has_same : (tuple : List Part) → list_any (is_at (tuple_cmp tuple)) (fold (with_tuple g exprs) [] ends_of) ≡ list_any (is_at (tuple_cmp tuple)) (fold (with_tuple g exprs) [] routes_of)
  has_same tuple =
      let parts = and_parts (is_path var ways && not (is_bound_in ways var)) _ leads in
      let path = and_parts (is_path var ways) _ parts.0 in
      let inside : end_var var ways < 20 = end_below ways var below all in
      let test : List (Option Bound) → Bool = gives resolved g atoms exprs tuple in
      has_all g exprs resolved atoms tuple ends_of []
      ∙ any_map test (both_bound var bound (end_var var ways)) found
      ∙ any_found (λ end. test (both_bound var bound (end_var var ways) end))
      ∙ sym (routes_ends resolved g atoms off var bound test (λ end. test (both_bound var bound (end_var var ways) end)) ways var (start_bound var bound) bound
      (size_start g exprs var bound (end_var var ways) below inside) (start_now g exprs var bound (end_var var ways) below inside) (start_now g exprs var bound (end_var var ways) below inside) path.0 (not-true _ path.1) all
      (λ b end first last. ap (λ o. option_map_or (is_at (tuple_cmp tuple)) o false) (same_tuple g exprs var bound (end_var var ways) below inside parts.1 b end first last)))
      ∙ sym (has_all g exprs resolved atoms tuple routes_of [])

  ends_are : fold (with_tuple g exprs) [] ends_of ≡ fold (with_tuple g exprs) [] routes_of
  ends_are =
      same_keys tuple_cmp_total exact_tuple _ _ (all_ascend g exprs ends_of [] (ascending_none tuple_cmp [] refl)) (all_ascend g exprs routes_of [] (ascending_none tuple_cmp [] refl)) has_same

-- the tuples under the routes are those under the first variable and the last
pub ends_are_routes : (resolved : Resolved) (g : Graph) (atoms : List Atom) (off : List Step) (exprs : List Expr) (ways : List Step) (var : ℕ) (bound : Bound) (found : List Bound) → nat_lt var 20 ≡ true →
    list_all (λ step. nat_lt (bound_by step) 20) ways ≡ true → leads_to_one var ways exprs ≡ true → AreAllOf (led_on resolved g atoms off ways bound) found →
    fold (λ so_far end. with_tuple g exprs so_far (with_bound (with_bound nothing_bound var bound) (end_var var ways) end)) [] found
    ≡ fold (with_tuple g exprs) [] (routes resolved g atoms off ways (with_bound nothing_bound var bound))
ends_are_routes resolved g atoms off exprs ways var bound found below all leads same =
    sym (fold-map (with_tuple g exprs) (both_bound var bound (end_var var ways)) [] found) ∙ ends_are resolved g atoms off exprs ways var bound found (ltb-true var 20 below) all leads same

-- ---- how many look-ups they take

module _ (last : ℕ) (can : Bound → Bool) (led : Bound → List Bound) (more most : Bound → ℕ) (each : (x : Bound) → more x + last * length (led x) ≤ most x) where
  one_kept : (o : Option Bound) (xs : List Bound) →
      option_map_or more o 0 + last * length (flat_map led (filter can (cons_option o xs))) ≤ option_map_or most o 0 + last * length (flat_map led (filter can xs))
  one_kept None xs = omega arith
  one_kept (Some x) xs = by (can x)
    where
      by : (b : Bool) → more x + last * length (flat_map led (cond b (x ∷ filter can xs) (filter can xs))) ≤ most x + last * length (flat_map led (filter can xs))
      by true =
          let own = each x in
          let both = ap (λ n. last * n) (length-append (led x) (flat_map led (filter can xs))) ∙ mul-add last (length (led x)) (length (flat_map led (filter can xs))) in
          omega (arith, own, both)
      by false = let own = each x in omega (arith, own)

  sum_kept : {X : Type 0} (admits : X → Option Bound) (xs : List X) → sum_by (λ x. 3 + option_map_or more (admits x) 0) xs + last * length (flat_map led (filter can (filter_map admits xs)))
      ≤ sum_by (λ x. 3 + option_map_or most (admits x) 0) xs
  sum_kept admits [] = omega arith
  sum_kept admits (x ∷ xs) =
      let rest = sum_kept admits xs in
      let own = one_kept (admits x) (filter_map admits xs) in
      let one = sum_by-cons (λ x. 3 + option_map_or more (admits x) 0) x xs in
      let two = sum_by-cons (λ x. 3 + option_map_or most (admits x) 0) x xs in
      omega (arith, rest, own, one, two)

  end_kept : (o : Option Bound) → option_map_or more o 0 + last * length (flat_map led (filter can (option_map_or (λ next. next ∷ []) o []))) ≤ option_map_or most o 0
  end_kept None = omega arith
  end_kept (Some x) = let own = one_kept (Some x) [] in omega (arith, own)

module _ (resolved : Resolved) (g : Graph) (atoms : List Atom) (off : List Step) (last : ℕ) where
  way_cost : (ways : List Step) (at : ℕ) (b : List (Option Bound)) (x : Bound) → length b ≡ 20 → bound_at b at ≡ Some x → is_path at ways ≡ true → list_all (λ step. nat_lt (bound_by step) 20) ways ≡ true →
      on_most resolved g atoms off 0 ways x + last * length (led_on resolved g atoms off ways x) ≤ way_most resolved g atoms off last ways b
  way_cost [] at b x size here path below = omega arith
  way_cost (Along edge node forward ∷ ways) at b x size here path below =
      let steps = and_parts (node == at) _ path in
      let small = and_parts (nat_lt edge 20) _ below in
      let inside : edge < length b = let less = ltb-true edge 20 small.0 in omega (arith, less, size) in
      let from : bound_at b node ≡ Some x = ap (bound_at b) (eqb-true node at steps.0) ∙ here in
      let most : Bound → ℕ = λ y. asked_most resolved g atoms off edge y + way_most resolved g atoms off last ways (with_bound b edge y) in
      let each : (y : Bound) → asked_most resolved g atoms off edge y + on_most resolved g atoms off 0 ways y + last * length (led_on resolved g atoms off ways y) ≤ most y =
      λ y. let rest = way_cost ways edge (with_bound b edge y) y (length-set b edge (Some y) ∙ size) (bound_now b edge y inside) steps.1 small.1 in omega (arith, rest) in
      let all = sum_kept last (can_be_given resolved g atoms off edge) (led_on resolved g atoms off ways) (λ y. asked_most resolved g atoms off edge y + on_most resolved g atoms off 0 ways y) most each
      (admitted_edge resolved g atoms edge) (edges_along g forward (Some x)) in
      subst (λ o. on_most resolved g atoms off 0 (Along edge node forward ∷ ways) x + last * length (led_on resolved g atoms off (Along edge node forward ∷ ways) x)
      ≤ length (edges_along g forward o) + 1 + sum_by (λ id. 3 + option_map_or most (admitted_edge resolved g atoms edge id) 0) (edges_along g forward o)) (sym from) (omega (arith, all))
  way_cost (End edge node source ∷ ways) at b x size here path below =
      let steps = and_parts (edge == at) _ path in
      let small = and_parts (nat_lt node 20) _ below in
      let inside : node < length b = let less = ltb-true node 20 small.0 in omega (arith, less, size) in
      let from : bound_at b edge ≡ Some x = ap (bound_at b) (eqb-true edge at steps.0) ∙ here in
      let most : Bound → ℕ = λ y. asked_most resolved g atoms off node y + way_most resolved g atoms off last ways (with_bound b node y) in
      let each : (y : Bound) → asked_most resolved g atoms off node y + on_most resolved g atoms off 0 ways y + last * length (led_on resolved g atoms off ways y) ≤ most y =
      λ y. let rest = way_cost ways node (with_bound b node y) y (length-set b node (Some y) ∙ size) (bound_now b node y inside) steps.1 small.1 in omega (arith, rest) in
      let all = end_kept last (can_be_given resolved g atoms off node) (led_on resolved g atoms off ways) (λ y. asked_most resolved g atoms off node y + on_most resolved g atoms off 0 ways y) most each
      (option_and_then (admitted_node resolved g atoms node) (end_at source (Some x))) in
      subst (λ o. on_most resolved g atoms off 0 (End edge node source ∷ ways) x + last * length (led_on resolved g atoms off (End edge node source ∷ ways) x)
      ≤ 1 + option_map_or most (option_and_then (admitted_node resolved g atoms node) (end_at source o)) 0) (sym from) (omega (arith, all))

-- to come to the ends, and then so many look-ups at each, take no more than the routes do
pub ends_cost : (resolved : Resolved) (g : Graph) (atoms : List Atom) (off : List Step) (ways : List Step) (var : ℕ) (bound : Bound) → nat_lt var 20 ≡ true →
    list_all (λ step. nat_lt (bound_by step) 20) ways ≡ true → is_path var ways ≡ true → is_bound_in ways var ≡ false → (last : ℕ) →
    on_most resolved g atoms off 0 ways bound + last * length (led_on resolved g atoms off ways bound) ≤ way_most resolved g atoms off last ways (with_bound nothing_bound var bound)
ends_cost resolved g atoms off ways var bound below all path none last =
    way_cost resolved g atoms off last ways var (with_bound nothing_bound var bound) bound (length-set nothing_bound var (Some bound)) (bound_now nothing_bound var bound (ltb-true var 20 below)) path all
