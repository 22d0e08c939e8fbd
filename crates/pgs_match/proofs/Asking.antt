-- What a search that asks for each branch by itself answers and costs.
use Rattle.std.proofs.Common.{◌≡◌, ℕ, suc, ◌+◌, ◌*◌, ◌^◌, ◌<◌, ◌≤◌, Bool, true, false, ⊎_elim, List, [], ◌∷◌, length, Some, None, refl, sym, ap, ◌∙◌, subst, true≢false, arith}
use Rattle.std.specs.Option.{option_map_or}
use Rattle.std.specs.List.{list_any}
use Rattle.std.proofs.Math.Nat.{mul-le-mul_right}
use Rattle.std.proofs.lemmas.Bool.{and_parts}
use Rattle.pgs_base.specs.declared.element.Elem.{Elem}
use Rattle.pgs_base.specs.Graph.{Graph, is_graph}
use Rattle.pgs_syntax.specs.declared.pattern.Atom.{Atom}
use Rattle.pgs_syntax.specs.declared.pattern.Pattern.{Pattern}
use Rattle.pgs_syntax.specs.declared.resolved.Resolved.{Resolved}
use Rattle.pgs_syntax.specs.Matches.{matches}
use Rattle.pgs_syntax.specs.Valid.{edge_count, is_valid_pattern}
use Rattle.pgs_syntax.proofs.Assigned.{match_found}
use Rattle.pgs_match.specs.declared.step.Step.{Step}
use Rattle.pgs_match.specs.declared.step.Step.TheVariants.{Along, End}
use Rattle.pgs_match.specs.declared.bindings.Bound.{Bound}
use Rattle.pgs_match.specs.Bounds.{bound_at, with_bound, nothing_bound, stands_at}
use Rattle.pgs_match.specs.Branches.{is_tree, can_be_given, walked, walked_from, asked_most}
use Rattle.pgs_match.specs.Near.{IsSparse}
use Rattle.pgs_match.specs.Plans.{known_alone, is_plan}
use Rattle.pgs_match.specs.Search.{can_complete}
use Rattle.pgs_match.specs.Tests.{admitted}
use Rattle.pgs_match.proofs.Bounded.{plan_size}
use Rattle.pgs_match.proofs.BranchCosts.{asked_by_walks, asked_few, walked_least}
use Rattle.pgs_match.proofs.Branching.{steps_placed, given_by_match}
use Rattle.pgs_match.proofs.Costs.{alongs, ends}
use Rattle.pgs_match.proofs.Counts.{some_at}
use Rattle.pgs_match.proofs.Hanging.{tree_has, completed}
use Rattle.pgs_match.proofs.Known.{valid_most}
use Rattle.pgs_match.proofs.Nearby.{bound_is}
use Rattle.pgs_match.proofs.Searched.{IsSame}
use Rattle.pgs_match.proofs.Standing.{bound_other, one_or_other}
use Rattle.pgs_match.proofs.Started.{same_truth, nothing_at, admitted_good, state_alone}
use Rattle.pgs_match.proofs.Values.{found_by_matches}
use Rattle.pgs_match.proofs.Walked.{stands}

pub steps_in : (steps : List Step) → length steps ≡ alongs steps + ends steps
steps_in [] = refl
steps_in (Along edge node forward ∷ steps) = let rest = steps_in steps in omega (arith, rest)
steps_in (End edge node source ∷ steps) = let rest = steps_in steps in omega (arith, rest)

module _ (resolved : Resolved) (g : Graph) (graph : is_graph g ≡ true) (pattern : Pattern) (valid : is_valid_pattern pattern ≡ true) (var : ℕ) (below : var < length pattern.edge_vars) (plan : List Step)
    (plans : is_plan pattern var plan ≡ true) (elem : Elem) (x : Bound) (admits : admitted resolved g pattern var elem ≡ Some x) where
  -- ---- the answer

  back : list_any (stands_at var elem) (matches resolved g pattern) ≡ true → can_be_given resolved g pattern.atoms plan var x ≡ true
  back h =
      let it = match_found resolved g pattern (stands_at var elem) h in
      let good = admitted_good resolved g pattern var elem x admits in
      given_by_match resolved g pattern valid it.0 it.1 (and_parts _ _ it.1).1 plan (steps_placed pattern.atoms (known_alone var) plan (and_parts _ _ plans).0) var x good.0
      (stands var elem it.0 it.2 ∙ ap Some (sym good.1))

  there : is_tree pattern.atoms plan ≡ true → can_be_given resolved g pattern.atoms plan var x ≡ true → list_any (stands_at var elem) (matches resolved g pattern) ≡ true
  there tree h =
      let good = admitted_good resolved g pattern var elem x admits in
      let most = valid_most pattern valid in
      let whole = completed resolved g graph pattern valid plan (known_alone var) (with_bound nothing_bound var x) plans (state_alone resolved g pattern var x (omega arith) good.0)
      (λ edge node source has none. absurd (true≢false (sym (tree_has plan pattern.atoms tree edge node source has) ∙ none))) alone in
      sym (found_by_matches resolved g pattern valid var below plan plans elem)
      ∙ ap (λ o. option_map_or (λ y. can_complete resolved g pattern.atoms plan (with_bound nothing_bound var y)) o false) admits ∙ whole
    where
      alone : (other : ℕ) (y : Bound) → bound_at (with_bound nothing_bound var x) other ≡ Some y → can_be_given resolved g pattern.atoms plan other y ≡ true
      alone other y at =
          ⊎_elim
          (λ is. let same : x ≡ y = bound_is nothing_bound var x y (subst (λ v. bound_at (with_bound nothing_bound var x) v ≡ Some y) is at) in
          subst (λ v. can_be_given resolved g pattern.atoms plan v y ≡ true) (sym is) (subst (λ z. can_be_given resolved g pattern.atoms plan var z ≡ true) same h))
          (λ apart. let e : None ≡ Some y = sym (nothing_at 20 other) ∙ sym (bound_other nothing_bound var other x apart) ∙ at in cc) (one_or_other other var)

  pub given_is_matched : is_tree pattern.atoms plan ≡ true → can_be_given resolved g pattern.atoms plan var x ≡ list_any (stands_at var elem) (matches resolved g pattern)
  given_is_matched tree = same_truth _ _ (there tree) back

  -- ---- what it costs

  pub asked_sparse : (w most : ℕ) → edge_count pattern.edge_vars ≤ w → IsSparse g w elem most → 3 + asked_most resolved g pattern.atoms plan var x ≤ 16 * (most + 2) ^ (w + 1)
  asked_sparse w most few sparse =
      let kind = some_at pattern.edge_vars var below in
      let good = admitted_good resolved g pattern var elem x admits in
      let one : suc w ≡ w + 1 = omega arith in
      subst (λ n. 3 + asked_most resolved g pattern.atoms plan var x ≤ 16 * (most + 2) ^ n) one
      (asked_few resolved g pattern valid most var below kind.0 kind.1 plan plans graph elem x good.0 good.1 w few sparse)

  pub asked_walks : 3 + asked_most resolved g pattern.atoms plan var x ≤ 80 * walked_from resolved g pattern plan var elem
  asked_walks =
      let kind = some_at pattern.edge_vars var below in
      let size = plan_size resolved g pattern valid var below kind.0 kind.1 plan plans in
      let long = steps_in plan in
      let asked = asked_by_walks resolved g pattern.atoms plan var x in
      let least = walked_least resolved g pattern.atoms plan var x in
      let most = bound (length plan) (walked resolved g pattern.atoms plan var x) (asked_most resolved g pattern.atoms plan var x) asked (omega (arith, long, size.1)) (omega arith) in
      subst (λ o. 3 + asked_most resolved g pattern.atoms plan var x ≤ 80 * option_map_or (walked resolved g pattern.atoms plan var) o 1) (sym admits) most
    where
      bound : (long walks asked : ℕ) → asked ≤ 4 * long * walks → long ≤ 19 → 2 ≤ walks → 3 + asked ≤ 80 * walks
      bound long walks asked one short two = let product = mul-le-mul_right walks short in omega arith

  -- ---- the same over what the parts of the search say

  module _ (other : Resolved) (graph_of : Graph) (demands : List Atom) (same : IsSame other resolved graph_of g demands pattern.atoms) where
    same_tree : (answer : Bool) → is_tree demands plan ≡ answer → is_tree pattern.atoms plan ≡ answer
    same_tree answer is = ap (λ atoms. is_tree atoms plan) (sym same.lists) ∙ is

    pub answer_with : is_tree demands plan ≡ true → (answer : Bool) → answer ≡ can_be_given other graph_of demands plan var x → answer ≡ list_any (stands_at var elem) (matches resolved g pattern)
    answer_with tree answer is =
        is ∙ ap (λ r. can_be_given r graph_of demands plan var x) same.schemas ∙ ap (λ h. can_be_given resolved h demands plan var x) same.graphs
        ∙ ap (λ a. can_be_given resolved g a plan var x) same.lists ∙ given_is_matched (same_tree true tree)

    same_most : asked_most other graph_of demands plan var x ≡ asked_most resolved g pattern.atoms plan var x
    same_most =
        ap (λ r. asked_most r graph_of demands plan var x) same.schemas ∙ ap (λ h. asked_most resolved h demands plan var x) same.graphs
        ∙ ap (λ a. asked_most resolved g a plan var x) same.lists

    pub few_asked : (start before after : ℕ) → before ≤ start + 3 → after ≤ before + asked_most other graph_of demands plan var x →
        (w most : ℕ) → edge_count pattern.edge_vars ≤ w → IsSparse g w elem most → after ≤ start + 16 * (most + 2) ^ (w + 1)
    few_asked start before after first rest w most few sparse =
        let bound = asked_sparse w most few sparse in
        let cost = same_most in
        omega (arith, bound, cost)

    pub walks_asked : (start before after : ℕ) → before ≤ start + 3 → after ≤ before + asked_most other graph_of demands plan var x →
        after ≤ start + 80 * walked_from resolved g pattern plan var elem
    walks_asked start before after first rest =
        let bound = asked_walks in
        let cost = same_most in
        omega (arith, bound, cost)

    -- another search is none of a tree
    pub no_tree : is_tree demands plan ≡ false → is_tree pattern.atoms plan ≡ true → ⊥
    no_tree none tree = true≢false (sym tree ∙ same_tree false none)

-- where nothing is admitted
pub walks_without : (resolved : Resolved) (g : Graph) (pattern : Pattern) (plan : List Step) (var : ℕ) (elem : Elem) → None ≡ admitted resolved g pattern var elem → (start after : ℕ) → after ≤ start + 3 →
    after ≤ start + 80 * walked_from resolved g pattern plan var elem
walks_without resolved g pattern plan var elem none start after first =
    let one : 1 ≡ walked_from resolved g pattern plan var elem = ap (λ o. option_map_or (walked resolved g pattern.atoms plan var) o 1) none in
    omega (arith, one)
