-- What a search along the way to some variables gives and costs, over what its parts say.
use Rattle.std.proofs.Common.{◌≡◌, ℕ, ◌+◌, ◌*◌, ◌^◌, ◌<◌, ◌≤◌, true, ◌||◌, ◌&&◌, ◌==◌, not, List, [], ◌∷◌, length, map, fold, nat_lt, Option, Some, None, OnSome, refl, sym, ◌∙◌, ap, subst, arith}
use Rattle.std.specs.Option.{option_map_or}
use Rattle.std.specs.List.{list_all}
use Rattle.std.proofs.lemmas.Bool.{and_from, and_parts, or_left, or_right, eq-eqb, eqb-true}
use Rattle.pgs_base.specs.declared.element.Elem.{Elem}
use Rattle.pgs_base.specs.declared.part.Part.{Part}
use Rattle.pgs_base.specs.Graph.{Graph, is_graph}
use Rattle.pgs_syntax.specs.declared.pattern.Atom.{Atom}
use Rattle.pgs_syntax.specs.declared.pattern.Expr.{Expr}
use Rattle.pgs_syntax.specs.declared.pattern.Pattern.{Pattern}
use Rattle.pgs_syntax.specs.declared.resolved.Resolved.{Resolved}
use Rattle.pgs_syntax.specs.Valid.{read_var, edge_count, is_valid_pattern}
use Rattle.pgs_match.specs.declared.step.Step.{Step}
use Rattle.pgs_match.specs.declared.bindings.Bound.{Bound}
use Rattle.pgs_match.specs.Bounds.{with_bound, nothing_bound}
use Rattle.pgs_match.specs.Answers.{is_bound_in}
use Rattle.pgs_match.specs.Branches.{is_tree, walked, walked_from, asked_most, degree_at}
use Rattle.pgs_match.specs.Frontier.{is_path, leads_to_one}
use Rattle.pgs_match.specs.Learned.{is_short}
use Rattle.pgs_match.specs.Near.{IsSparse}
use Rattle.pgs_match.specs.Plans.{is_plan}
use Rattle.pgs_match.specs.Routes.{on_way, off_way, whole, routes, way_most, routed, routed_from, with_tuple}
use Rattle.pgs_match.specs.Search.{gathered}
use Rattle.pgs_match.specs.Spread.{elem_degree}
use Rattle.pgs_match.specs.Tests.{admitted}
use Rattle.pgs_match.proofs.Known.{valid_most}
use Rattle.pgs_match.proofs.Learning.{degree_same}
use Rattle.pgs_match.proofs.OnWay.{is_wanted}
use Rattle.pgs_match.proofs.Searched.{IsSame, cost_without, few_with}
use Rattle.pgs_match.proofs.Standing.{bound_now}
use Rattle.pgs_match.proofs.Started.{admitted_good}
use Rattle.pgs_match.proofs.ToOne.{short_way, none_off}
use Rattle.pgs_match.proofs.WayEnds.{ways_sparse, ways_walks, ways_one, one_of}
use Rattle.pgs_match.proofs.WayValues.{routes_give_all}

-- each expression takes one of what they take
pub all_taken : (exprs : List Expr) → list_all (λ expr. is_wanted (map read_var exprs) (read_var expr)) exprs ≡ true
all_taken exprs = more exprs (map read_var exprs) (λ v h. h)
  where
    more : (exprs : List Expr) (wanted : List ℕ) → ((v : ℕ) → is_wanted (map read_var exprs) v ≡ true → is_wanted wanted v ≡ true) → list_all (λ expr. is_wanted wanted (read_var expr)) exprs ≡ true
    more [] wanted sub = refl
    more (expr ∷ exprs) wanted sub =
        and_from _ _ (sub (read_var expr) (or_left _ _ (eq-eqb (read_var expr) (read_var expr) refl))) (more exprs wanted (λ v h. sub v (or_right (read_var expr == v) _ h)))

module _ (resolved : Resolved) (g : Graph) (pattern : Pattern) (valid : is_valid_pattern pattern ≡ true) (var : ℕ) (below : var < length pattern.edge_vars) (plan : List Step) (plans : is_plan pattern var plan ≡ true)
    (elem : Elem) (exprs : List Expr) (other : Resolved) (graph_of : Graph) (demands : List Atom) (same : IsSame other resolved graph_of g demands pattern.atoms)
    (on off : List Step) (on_is : on ≡ on_way (map read_var exprs) plan) (off_is : off ≡ off_way (map read_var exprs) plan) (b : List (Option Bound)) (nothing : b ≡ nothing_bound)
    (now : Option Bound) (now_is : now ≡ admitted resolved g pattern var elem) (one : OnSome now (is_graph g ≡ true)) where
  abbrev wanted : List ℕ
  wanted = map read_var exprs

  -- the graph is one where something is admitted
  graph_at : (x : Bound) → admitted resolved g pattern var elem ≡ Some x → is_graph g ≡ true
  graph_at x at = let some : OnSome (Some x) (is_graph g ≡ true) = subst (λ o. OnSome o (is_graph g ≡ true)) (now_is ∙ at) one in some

  -- ---- the answer

  abbrev answer : List (List Part)
  answer = option_map_or (λ x. gathered resolved g pattern.atoms exprs plan (with_bound nothing_bound var x) []) (admitted resolved g pattern var elem) []

  pub tuples_found : is_tree pattern.atoms plan ≡ true → list_all (λ (expr : Expr). nat_lt (read_var expr) (length pattern.edge_vars)) exprs ≡ true → (tuples start : List (List Part)) → start ≡ [] →
      tuples ≡ fold (with_tuple graph_of exprs) start (option_map_or (λ x. routes other graph_of demands off on (with_bound b var x)) (whole other graph_of demands off var now) []) → tuples ≡ answer
  tuples_found tree inside tuples start empty is =
      is
      ∙ (λ i. fold (with_tuple (same.graphs i) exprs) (empty i)
      (option_map_or (λ x. routes (same.schemas i) (same.graphs i) (same.lists i) (off_is i) (on_is i) (with_bound (nothing i) var x)) (whole (same.schemas i) (same.graphs i) (same.lists i) (off_is i) var (now_is i)) []))
      ∙ by (admitted resolved g pattern var elem) refl
    where
      by : (o : Option Bound) → admitted resolved g pattern var elem ≡ o →
          fold (with_tuple g exprs) [] (option_map_or (λ x. routes resolved g pattern.atoms (off_way wanted plan) (on_way wanted plan) (with_bound nothing_bound var x)) (whole resolved g pattern.atoms (off_way wanted plan) var (admitted resolved g pattern var elem)) [])
          ≡ answer
      by None at =
          ap (λ o. fold (with_tuple g exprs) [] (option_map_or (λ x. routes resolved g pattern.atoms (off_way wanted plan) (on_way wanted plan) (with_bound nothing_bound var x)) (whole resolved g pattern.atoms (off_way wanted plan) var o) [])) at
          ∙ sym (ap (λ o. option_map_or (λ x. gathered resolved g pattern.atoms exprs plan (with_bound nothing_bound var x) []) o []) at)
      by (Some x) at = routes_give_all resolved g (graph_at x at) pattern valid var below plan plans tree elem wanted exprs (all_taken exprs) inside

  pub tuples_few : (tuples : List (List Part)) → tuples ≡ answer → (w most : ℕ) → edge_count pattern.edge_vars ≤ w → IsSparse g w elem most → length tuples ≤ (most + 2) ^ w
  tuples_few tuples is w most few sparse = by (admitted resolved g pattern var elem) refl
    where
      by : (o : Option Bound) → admitted resolved g pattern var elem ≡ o → length tuples ≤ (most + 2) ^ w
      by None at =
          let none : length tuples ≡ 0 = ap length (is ∙ ap (λ o. option_map_or (λ x. gathered resolved g pattern.atoms exprs plan (with_bound nothing_bound var x) []) o []) at) in
          omega (arith, none)
      by (Some x) at =
          few_with resolved g pattern valid var below plan plans elem x (sym at) resolved g pattern.atoms (record { schemas = refl; graphs = refl; lists = refl }) (graph_at x at) exprs tuples
          (is ∙ ap (λ o. option_map_or (λ y. gathered resolved g pattern.atoms exprs plan (with_bound nothing_bound var y) []) o []) at) w most few sparse

  -- ---- what it costs

  module _ (small : length exprs ≤ 16) (start before after : ℕ) (first : before ≤ start + 3)
      (rest : after ≤ before + option_map_or (λ x. asked_most other graph_of demands off var x + way_most other graph_of demands off (length exprs) on (with_bound b var x)) now 0) where
    abbrev cost : Bound → ℕ
    cost x = asked_most resolved g pattern.atoms (off_way wanted plan) var x + way_most resolved g pattern.atoms (off_way wanted plan) (length exprs) (on_way wanted plan) (with_bound nothing_bound var x)

    same_cost : option_map_or (λ x. asked_most other graph_of demands off var x + way_most other graph_of demands off (length exprs) on (with_bound b var x)) now 0 ≡ option_map_or cost (admitted resolved g pattern var elem) 0
    same_cost = λ i. option_map_or (λ x. asked_most (same.schemas i) (same.graphs i) (same.lists i) (off_is i) var x + way_most (same.schemas i) (same.graphs i) (same.lists i) (off_is i) (length exprs) (on_is i) (with_bound (nothing i) var x)) (now_is i) 0

    -- where nothing is admitted, and where something is
    none_taken : admitted resolved g pattern var elem ≡ None → after ≤ start + 3
    none_taken at = let none : option_map_or cost (admitted resolved g pattern var elem) 0 ≡ 0 = ap (λ o. option_map_or cost o 0) at in let all = same_cost in omega (arith, none, all, first, rest)

    some_taken : (x : Bound) → admitted resolved g pattern var elem ≡ Some x → after ≤ start + (3 + cost x)
    some_taken x at = let here : option_map_or cost (admitted resolved g pattern var elem) 0 ≡ cost x = ap (λ o. option_map_or cost o 0) at in let all = same_cost in omega (arith, here, all, first, rest)

    pub cost_sparse : (w most : ℕ) → edge_count pattern.edge_vars ≤ w → IsSparse g w elem most → after ≤ start + 16 * (most + 2) ^ (w + 1)
    cost_sparse w most few sparse = by (admitted resolved g pattern var elem) refl
      where
        by : (o : Option Bound) → admitted resolved g pattern var elem ≡ o → after ≤ start + 16 * (most + 2) ^ (w + 1)
        by None at = cost_without start after (none_taken at) w most
        by (Some x) at =
            let bound = ways_sparse resolved g (graph_at x at) pattern valid var below plan plans elem x at wanted w most (length exprs) few sparse small in
            let all = some_taken x at in
            omega (arith, bound, all)

    pub cost_routes : after ≤ start + 80 * routed_from resolved g pattern wanted plan var elem
    cost_routes = by (admitted resolved g pattern var elem) refl
      where
        by : (o : Option Bound) → admitted resolved g pattern var elem ≡ o → after ≤ start + 80 * routed_from resolved g pattern wanted plan var elem
        by None at =
            let none : routed_from resolved g pattern wanted plan var elem ≡ 1 =
            ap (λ o. option_map_or (λ x. walked resolved g pattern.atoms (off_way wanted plan) var x + routed resolved g pattern.atoms (off_way wanted plan) (on_way wanted plan) (with_bound nothing_bound var x)) o 1) at in
            let all = none_taken at in
            omega (arith, none, all)
        by (Some x) at =
            let bound = ways_walks resolved g (graph_at x at) pattern valid var below plan plans elem x at wanted (length exprs) small in
            let all = some_taken x at in
            omega (arith, bound, all)

    pub cost_walks : (last : ℕ) → list_all (λ v. v == var || v == last) wanted ≡ true → after ≤ start + 160 * walked_from resolved g pattern plan var elem
    cost_walks last only = by (admitted resolved g pattern var elem) refl
      where
        by : (o : Option Bound) → admitted resolved g pattern var elem ≡ o → after ≤ start + 160 * walked_from resolved g pattern plan var elem
        by None at =
            let none : walked_from resolved g pattern plan var elem ≡ 1 = ap (λ o. option_map_or (walked resolved g pattern.atoms plan var) o 1) at in
            let all = none_taken at in
            omega (arith, none, all)
        by (Some x) at =
            let bound = ways_one resolved g (graph_at x at) pattern valid var below plan plans elem x at wanted last (one_of var last wanted only) (length exprs) small in
            let all = some_taken x at in
            omega (arith, bound, all)

    -- where the way is short, leads to one variable, and nothing hangs off it
    pub cost_short : (is_short on && length off == 0) ≡ true → leads_to_one var on exprs ≡ true → after ≤ start + 440 * (elem_degree g elem + 2)
    cost_short short leads = by (admitted resolved g pattern var elem) refl
      where
        by : (o : Option Bound) → admitted resolved g pattern var elem ≡ o → after ≤ start + 440 * (elem_degree g elem + 2)
        by None at = let all = none_taken at in omega (arith, all)
        by (Some x) at =
            let tests = and_parts (is_short on) _ short in
            let path = (and_parts (is_path var on) _ (and_parts (is_path var on && not (is_bound_in on var)) _ leads).0).0 in
            let few = short_way resolved g pattern.atoms off (length exprs) small var (with_bound nothing_bound var x) x
            (bound_now nothing_bound var x (let most = valid_most pattern valid in omega (arith, most, below))) on tests.0 path (none_off off (eqb-true (length off) 0 tests.1)) in
            let here : cost x ≡ asked_most resolved g pattern.atoms off var x + way_most resolved g pattern.atoms off (length exprs) on (with_bound nothing_bound var x) =
            sym (λ i. asked_most resolved g pattern.atoms (off_is i) var x + way_most resolved g pattern.atoms (off_is i) (length exprs) (on_is i) (with_bound nothing_bound var x)) in
            let asked : asked_most resolved g pattern.atoms off var x ≡ 0 = ap (λ steps. asked_most resolved g pattern.atoms steps var x) (none_off off (eqb-true (length off) 0 tests.1)) in
            let same : degree_at g x ≡ elem_degree g elem = degree_same g x ∙ ap (elem_degree g) (admitted_good resolved g pattern var elem x at).1 in
            let all = some_taken x at in
            omega (arith, few, here, asked, same, all)
