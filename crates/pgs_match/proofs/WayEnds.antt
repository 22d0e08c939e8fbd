-- What a search along the way to some variables answers and costs, over what its parts say.
use Rattle.std.proofs.Common.{◌≡◌, ◌≢◌, ◌⊎◌, inl, inr, ℕ, suc, ◌+◌, ◌*◌, ◌^◌, ◌<◌, ◌≤◌, Bool, true, false, ◌||◌, ◌==◌, List, [], ◌∷◌, length, replicate, Some, refl, sym, ◌∙◌, ap, subst, true≢false, arith}
use Rattle.std.specs.Option.{option_map_or}
use Rattle.std.specs.List.{list_all}
use Rattle.std.proofs.lemmas.Bool.{and_parts, or_cases, eqb-true}
use Rattle.std.proofs.lemmas.List.{length-set}
use Rattle.pgs_base.specs.declared.element.Elem.{Elem}
use Rattle.pgs_base.specs.Graph.{Graph, is_graph}
use Rattle.pgs_syntax.specs.declared.pattern.Pattern.{Pattern}
use Rattle.pgs_syntax.specs.declared.resolved.Resolved.{Resolved}
use Rattle.pgs_syntax.specs.Valid.{edge_count, is_valid_pattern}
use Rattle.pgs_match.specs.declared.step.Step.{Step}
use Rattle.pgs_match.specs.declared.bindings.Bound.{Bound}
use Rattle.pgs_match.specs.Bounds.{with_bound, nothing_bound}
use Rattle.pgs_match.specs.Branches.{walked, walked_from, asked_most}
use Rattle.pgs_match.specs.Near.{IsSparse}
use Rattle.pgs_match.specs.Plans.{bound_by, is_known, known_alone, is_step, are_steps, is_plan}
use Rattle.pgs_match.specs.Routes.{on_way, off_way, way_most, routed, routed_from}
use Rattle.pgs_match.specs.Tests.{admitted}
use Rattle.pgs_match.proofs.Counts.{some_at}
use Rattle.pgs_match.proofs.Bounded.{plan_size}
use Rattle.pgs_match.proofs.Completed.{step_facts}
use Rattle.pgs_match.proofs.Known.{known_now, valid_most}
use Rattle.pgs_match.proofs.OnWay.{is_wanted}
use Rattle.pgs_match.proofs.Standing.{bound_now, known_other, one_or_other}
use Rattle.pgs_match.proofs.Asking.{steps_in}
use Rattle.pgs_match.proofs.Started.{none_known, admitted_good}
use Rattle.pgs_match.proofs.WayCosts.{ways_few}
use Rattle.pgs_match.proofs.WayWalks.{ways_routed, off_short, is_chain, IsChained, chained, routed_walked}

-- which variables are wanted, where all are of two
pub one_of : (var other : ℕ) (wanted : List ℕ) → list_all (λ v. v == var || v == other) wanted ≡ true → (v : ℕ) → is_wanted wanted v ≡ true → (v ≡ var) ⊎ (v ≡ other)
one_of var other [] all v want = absurd (true≢false (sym want))
one_of var other (w ∷ wanted) all v want =
    let parts = and_parts (w == var || w == other) _ all in
    by (w == v) refl want (or_cases (w == var) (w == other) parts.0) (one_of var other wanted parts.1 v)
  where
    by : (b : Bool) → (w == v) ≡ b → (b || is_wanted wanted v) ≡ true → ((w == var) ≡ true) ⊎ ((w == other) ≡ true) → (is_wanted wanted v ≡ true → (v ≡ var) ⊎ (v ≡ other)) → (v ≡ var) ⊎ (v ≡ other)
    by true is some (inl here) rest = inl (sym (eqb-true w v is) ∙ eqb-true w var here)
    by true is some (inr here) rest = inr (sym (eqb-true w v is) ∙ eqb-true w other here)
    by false is some which rest = rest some

module _ (resolved : Resolved) (g : Graph) (graph : is_graph g ≡ true) (pattern : Pattern) (valid : is_valid_pattern pattern ≡ true) (var : ℕ) (below : var < length pattern.edge_vars) (plan : List Step)
    (plans : is_plan pattern var plan ≡ true) (elem : Elem) (x : Bound) (admits : admitted resolved g pattern var elem ≡ Some x) (wanted : List ℕ) where
  pub ways_sparse : (w most last : ℕ) → edge_count pattern.edge_vars ≤ w → IsSparse g w elem most → last ≤ 16 →
      3 + (asked_most resolved g pattern.atoms (off_way wanted plan) var x + way_most resolved g pattern.atoms (off_way wanted plan) last (on_way wanted plan) (with_bound nothing_bound var x)) ≤ 16 * (most + 2) ^ (w + 1)
  ways_sparse w most last few sparse small =
      let kind = some_at pattern.edge_vars var below in
      let good = admitted_good resolved g pattern var elem x admits in
      let one : suc w ≡ w + 1 = omega arith in
      subst (λ n. 3 + (asked_most resolved g pattern.atoms (off_way wanted plan) var x + way_most resolved g pattern.atoms (off_way wanted plan) last (on_way wanted plan) (with_bound nothing_bound var x)) ≤ 16 * (most + 2) ^ n) one
      (ways_few resolved g pattern valid var below kind.0 kind.1 plan plans wanted last small most w few graph elem x good.0 good.1 sparse)

  ways_routes : (last : ℕ) → last ≤ 16 →
      3 + (asked_most resolved g pattern.atoms (off_way wanted plan) var x + way_most resolved g pattern.atoms (off_way wanted plan) last (on_way wanted plan) (with_bound nothing_bound var x))
      ≤ 80 * (walked resolved g pattern.atoms (off_way wanted plan) var x + routed resolved g pattern.atoms (off_way wanted plan) (on_way wanted plan) (with_bound nothing_bound var x))
  ways_routes last small =
      let kind = some_at pattern.edge_vars var below in
      let size = plan_size resolved g pattern valid var below kind.0 kind.1 plan plans in
      let long = steps_in plan in
      let less = off_short wanted plan in
      ways_routed resolved g pattern.atoms (off_way wanted plan) (omega (arith, size.1, long, less)) last small (on_way wanted plan) var x

  pub ways_walks : (last : ℕ) → last ≤ 16 →
      3 + (asked_most resolved g pattern.atoms (off_way wanted plan) var x + way_most resolved g pattern.atoms (off_way wanted plan) last (on_way wanted plan) (with_bound nothing_bound var x)) ≤ 80 * routed_from resolved g pattern wanted plan var elem
  ways_walks last small =
      subst (λ o. 3 + (asked_most resolved g pattern.atoms (off_way wanted plan) var x + way_most resolved g pattern.atoms (off_way wanted plan) last (on_way wanted plan) (with_bound nothing_bound var x))
      ≤ 80 * option_map_or (λ y. walked resolved g pattern.atoms (off_way wanted plan) var y + routed resolved g pattern.atoms (off_way wanted plan) (on_way wanted plan) (with_bound nothing_bound var y)) o 1)
      (sym admits) (ways_routes last small)

  -- where the way goes to one variable beside the first, it comes to no more than the walks
  pub ways_one : (other : ℕ) → ((v : ℕ) → is_wanted wanted v ≡ true → (v ≡ var) ⊎ (v ≡ other)) → (last : ℕ) → last ≤ 16 →
      3 + (asked_most resolved g pattern.atoms (off_way wanted plan) var x + way_most resolved g pattern.atoms (off_way wanted plan) last (on_way wanted plan) (with_bound nothing_bound var x)) ≤ 160 * walked_from resolved g pattern plan var elem
  ways_one other only last small =
      let routes = ways_routes last small in
      let chain = chained pattern.atoms wanted var other only plan (known_alone var) (length-set (replicate 20 false) var true) steps inside begun in
      let walks = one_chain chain in
      subst (λ o. 3 + (asked_most resolved g pattern.atoms (off_way wanted plan) var x + way_most resolved g pattern.atoms (off_way wanted plan) last (on_way wanted plan) (with_bound nothing_bound var x))
      ≤ 160 * option_map_or (walked resolved g pattern.atoms plan var) o 1) (sym admits) (omega (arith, routes, walks))
    where
      steps : are_steps pattern.atoms (known_alone var) plan ≡ true
      steps = (and_parts _ _ plans).0

      inside : (step : Step) (now : List Bool) → is_step pattern.atoms now step ≡ true → bound_by step < 20
      inside step now is = (step_facts resolved g pattern valid now step is).0

      there : var < length (replicate 20 false)
      there = let most = valid_most pattern valid in omega arith

      begun : is_known (known_alone var) var ≡ true
      begun = known_now (replicate 20 false) var there

      follow : is_chain var (on_way wanted plan) ≡ true →
          walked resolved g pattern.atoms (off_way wanted plan) var x + routed resolved g pattern.atoms (off_way wanted plan) (on_way wanted plan) (with_bound nothing_bound var x) ≤ 2 * walked resolved g pattern.atoms plan var x
      follow chain =
          routed_walked resolved g pattern.atoms wanted (off_way wanted plan) plan (known_alone var) var steps inside (λ v y unknown. refl) chain x (with_bound nothing_bound var x) (length-set nothing_bound var (Some x)) (bound_now nothing_bound var x there)

      -- the chain begins at the first variable
      one_chain : IsChained pattern.atoms wanted (on_way wanted plan) (known_alone var) →
          walked resolved g pattern.atoms (off_way wanted plan) var x + routed resolved g pattern.atoms (off_way wanted plan) (on_way wanted plan) (with_bound nothing_bound var x) ≤ 2 * walked resolved g pattern.atoms plan var x
      one_chain (inl empty) = follow (ap (is_chain var) empty)
      one_chain (inr chain) = follow (by (one_or_other chain.0 var))
        where
          by : (chain.0 ≡ var) ⊎ (chain.0 ≢ var) → is_chain var (on_way wanted plan) ≡ true
          by (inl same) = subst (λ v. is_chain v (on_way wanted plan) ≡ true) same chain.2
          by (inr apart) = absurd (true≢false (sym chain.1 ∙ known_other (replicate 20 false) var chain.0 apart ∙ none_known 20 chain.0))
