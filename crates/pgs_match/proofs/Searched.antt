-- What a search from one variable answers and costs, over what its parts say.
use Rattle.std.proofs.Common.{◌≡◌, ℕ, suc, ◌+◌, ◌*◌, ◌^◌, ◌<◌, ◌≤◌, Bool, true, false, List, [], length, Some, None, sym, ap, ◌∙◌, subst, arith}
use Rattle.std.specs.Option.{option_map_or}
use Rattle.std.specs.List.{list_any}
use Rattle.pgs_base.specs.declared.element.Elem.{Elem}
use Rattle.pgs_base.specs.declared.part.Part.{Part}
use Rattle.pgs_base.specs.Graph.{Graph, is_graph}
use Rattle.pgs_syntax.specs.declared.pattern.Atom.{Atom}
use Rattle.pgs_syntax.specs.declared.pattern.Expr.{Expr}
use Rattle.pgs_syntax.specs.declared.pattern.Pattern.{Pattern}
use Rattle.pgs_syntax.specs.declared.resolved.Resolved.{Resolved}
use Rattle.pgs_syntax.specs.Matches.{matches}
use Rattle.pgs_syntax.specs.Valid.{edge_count, is_valid_pattern}
use Rattle.pgs_match.specs.declared.step.Step.{Step}
use Rattle.pgs_match.specs.Plans.{is_plan}
use Rattle.pgs_match.proofs.Counts.{some_at}
use Rattle.pgs_match.specs.declared.bindings.Bound.{Bound}
use Rattle.pgs_match.specs.Bounds.{with_bound, nothing_bound, stands_at}
use Rattle.pgs_match.specs.Near.{IsSparse}
use Rattle.pgs_match.specs.Search.{can_complete, gathered, most_steps}
use Rattle.pgs_match.specs.Tests.{admitted}
use Rattle.pgs_match.proofs.Bounded.{steps_most, completions_most}
use Rattle.pgs_match.proofs.Costs.{one_at_least}
use Rattle.pgs_match.proofs.Gathered.{gathered_size}
use Rattle.pgs_match.proofs.Started.{admitted_good}
use Rattle.pgs_match.proofs.Values.{found_by_matches}

-- the searched place in other words: the same schema, graph and atoms
pub record IsSame (other resolved : Resolved) (graph g : Graph) (demands atoms : List Atom) : Type 0 where
  pub schemas : other ≡ resolved
  pub graphs : graph ≡ g
  pub lists : demands ≡ atoms

module _ (resolved : Resolved) (g : Graph) (pattern : Pattern) (valid : is_valid_pattern pattern ≡ true) (var : ℕ) (below : var < length pattern.edge_vars) (plan : List Step)
    (plans : is_plan pattern var plan ≡ true) (elem : Elem) where
  -- ---- whether there is a match

  pub found_without : None ≡ admitted resolved g pattern var elem → false ≡ list_any (stands_at var elem) (matches resolved g pattern)
  found_without none =
      ap (λ o. option_map_or (λ x. can_complete resolved g pattern.atoms plan (with_bound nothing_bound var x)) o false) none ∙ found_by_matches resolved g pattern valid var below plan plans elem

  module _ (x : Bound) (admits : Some x ≡ admitted resolved g pattern var elem) (other : Resolved) (graph : Graph) (demands : List Atom) (same : IsSame other resolved graph g demands pattern.atoms) where
    pub found_with : (answer : Bool) → answer ≡ can_complete other graph demands plan (with_bound nothing_bound var x) → answer ≡ list_any (stands_at var elem) (matches resolved g pattern)
    found_with answer is =
        is ∙ ap (λ r. can_complete r graph demands plan (with_bound nothing_bound var x)) same.schemas
        ∙ ap (λ h. can_complete resolved h demands plan (with_bound nothing_bound var x)) same.graphs
        ∙ ap (λ a. can_complete resolved g a plan (with_bound nothing_bound var x)) same.lists
        ∙ ap (λ o. option_map_or (λ y. can_complete resolved g pattern.atoms plan (with_bound nothing_bound var y)) o false) admits
        ∙ found_by_matches resolved g pattern valid var below plan plans elem

    -- ---- what it costs

    pub cost_with : (is_one : is_graph g ≡ true) (last start before after : ℕ) → last ≤ 16 → before ≤ start + 3 →
        after ≤ before + most_steps other graph demands last plan (with_bound nothing_bound var x) →
        (w most : ℕ) → edge_count pattern.edge_vars ≤ w → IsSparse g w elem most → after ≤ start + 16 * (most + 2) ^ (w + 1)
    cost_with is_one last start before after small first rest w most few sparse =
        let kind = some_at pattern.edge_vars var below in
        let good = admitted_good resolved g pattern var elem x (sym admits) in
        let bound = steps_most resolved g pattern valid var below kind.0 kind.1 plan plans is_one elem x good.0 good.1 w most few sparse last small in
        let cost : most_steps other graph demands last plan (with_bound nothing_bound var x) ≡ most_steps resolved g pattern.atoms last plan (with_bound nothing_bound var x) =
        ap (λ r. most_steps r graph demands last plan (with_bound nothing_bound var x)) same.schemas
        ∙ ap (λ h. most_steps resolved h demands last plan (with_bound nothing_bound var x)) same.graphs
        ∙ ap (λ a. most_steps resolved g a last plan (with_bound nothing_bound var x)) same.lists in
        let one : suc w ≡ w + 1 = omega arith in
        subst (λ n. after ≤ start + 16 * (most + 2) ^ n) one (omega arith)

    pub few_with : (is_one : is_graph g ≡ true) (exprs : List Expr) (tuples : List (List Part)) → tuples ≡ gathered other graph demands exprs plan (with_bound nothing_bound var x) [] →
        (w most : ℕ) → edge_count pattern.edge_vars ≤ w → IsSparse g w elem most → length tuples ≤ (most + 2) ^ w
    few_with is_one exprs tuples is w most few sparse =
        let kind = some_at pattern.edge_vars var below in
        let good = admitted_good resolved g pattern var elem x (sym admits) in
        let bound = completions_most resolved g pattern valid var below kind.0 kind.1 plan plans is_one elem x good.0 good.1 w most few sparse in
        let size = gathered_size resolved g pattern.atoms exprs plan (with_bound nothing_bound var x) [] in
        let all : length tuples ≡ length (gathered resolved g pattern.atoms exprs plan (with_bound nothing_bound var x) []) =
        ap length (is ∙ ap (λ r. gathered r graph demands exprs plan (with_bound nothing_bound var x) []) same.schemas
        ∙ ap (λ h. gathered resolved h demands exprs plan (with_bound nothing_bound var x) []) same.graphs
        ∙ ap (λ a. gathered resolved g a exprs plan (with_bound nothing_bound var x) []) same.lists) in
        omega arith

-- where nothing is admitted
pub cost_without : (start after : ℕ) → after ≤ start + 3 → (w most : ℕ) → after ≤ start + 16 * (most + 2) ^ (w + 1)
cost_without start after first w most = let one = one_at_least most (w + 1) in omega arith
