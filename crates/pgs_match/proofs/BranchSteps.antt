-- What one step of a plan comes to where each branch is asked by itself, and the edges of a node one by one.
use Rattle.std.proofs.Common.{◌≡◌, ℕ, ◌+◌, ◌≤◌, Bool, false, ◌&&◌, ◌||◌, not, cond, List, [], ◌∷◌, length, Option, Some, None, sym, ap, ◌∙◌, arith}
use Rattle.std.specs.Prelude.{option_and_then}
use Rattle.std.specs.Option.{option_map_or}
use Rattle.std.specs.List.{list_any, sum_by}
use Rattle.pgs_base.specs.declared.element.EdgeId.{EdgeId}
use Rattle.pgs_base.specs.declared.element.NodeId.{NodeId}
use Rattle.pgs_base.specs.Graph.{Graph}
use Rattle.pgs_syntax.specs.declared.pattern.Atom.{Atom}
use Rattle.pgs_syntax.specs.declared.resolved.Resolved.{Resolved}
use Rattle.pgs_match.specs.declared.step.Step.{Step}
use Rattle.pgs_match.specs.declared.step.Step.TheVariants.{Along, End}
use Rattle.pgs_match.specs.declared.bindings.Bound.{Bound}
use Rattle.pgs_match.specs.declared.bindings.Bound.TheVariants as bounds
use Rattle.pgs_match.specs.Bounds.{end_at}
use Rattle.pgs_match.specs.Branches.{goes_from, next_bounds, can_be_given, step_most, asked_most}
use Rattle.pgs_match.specs.Plans.{bound_by}
use Rattle.pgs_match.specs.Search.{edges_along}
use Rattle.pgs_match.specs.Tests.{admitted_node, admitted_edge}
use Rattle.pgs_match.proofs.Branching.{any_filter_map, any_of_one}

module _ (resolved : Resolved) (g : Graph) (atoms : List Atom) where
  module _ (rest : List Step) (var : ℕ) where
    -- whether all can be given with an edge, and how many look-ups that takes at most
    abbrev pub given_with : EdgeId → Bool
    given_with id = option_map_or (can_be_given resolved g atoms rest var) (admitted_edge resolved g atoms var id) false

    abbrev pub asked_with : EdgeId → ℕ
    asked_with id = 3 + option_map_or (asked_most resolved g atoms rest var) (admitted_edge resolved g atoms var id) 0

    -- the same by what was admitted
    pub given_by : (id : EdgeId) (admitted : Option Bound) → admitted ≡ admitted_edge resolved g atoms var id →
        option_map_or (can_be_given resolved g atoms rest var) admitted false ≡ given_with id
    given_by id admitted same = ap (λ o. option_map_or (can_be_given resolved g atoms rest var) o false) same

    pub asked_by : (id : EdgeId) (admitted : Option Bound) → admitted ≡ admitted_edge resolved g atoms var id → (now mid after : ℕ) →
        mid ≤ now + 3 → after ≤ mid + option_map_or (asked_most resolved g atoms rest var) admitted 0 → after ≤ now + asked_with id
    asked_by id admitted same now mid after few more =
        let here = ap (λ o. option_map_or (asked_most resolved g atoms rest var) o 0) same in omega arith

  -- ---- a branch

  module _ (rest : List Step) (step : Step) (bound : Bound) where
    abbrev pub any_next : Bool
    any_next = list_any (can_be_given resolved g atoms rest (bound_by step)) (next_bounds resolved g atoms step bound)

    abbrev pub next_most : ℕ
    next_most = step_most resolved g atoms (asked_most resolved g atoms rest (bound_by step)) step bound

  -- along the edges of a node
  pub edge_branch : (rest : List Step) (step : Step) (bound : Bound) (edge node : ℕ) (forward : Bool) (from : NodeId) → step ≡ Along edge node forward → bound ≡ bounds.Node from →
      list_any (given_with rest edge) (edges_along g forward (Some (bounds.Node from))) ≡ any_next rest step bound
  edge_branch rest step bound edge node forward from is at =
      sym (ap (λ s. any_next rest s bound) is ∙ ap (any_next rest (Along edge node forward)) at
      ∙ any_filter_map (can_be_given resolved g atoms rest edge) (admitted_edge resolved g atoms edge) (edges_along g forward (Some (bounds.Node from))))

  pub edge_branch_most : (rest : List Step) (step : Step) (bound : Bound) (edge node : ℕ) (forward : Bool) (from : NodeId) → step ≡ Along edge node forward → bound ≡ bounds.Node from →
      length (edges_along g forward (Some (bounds.Node from))) + 1 + sum_by (asked_with rest edge) (edges_along g forward (Some (bounds.Node from))) ≡ next_most rest step bound
  edge_branch_most rest step bound edge node forward from is at =
      sym (ap (λ s. next_most rest s bound) is ∙ ap (next_most rest (Along edge node forward)) at)

  -- an edge has no edges
  pub no_branch : (rest : List Step) (step : Step) (bound : Bound) (edge node : ℕ) (forward : Bool) (id : EdgeId) (source target : NodeId) → step ≡ Along edge node forward →
      bound ≡ bounds.Edge id source target → false ≡ any_next rest step bound
  no_branch rest step bound edge node forward id source target is at =
      sym (ap (λ s. any_next rest s bound) is ∙ ap (any_next rest (Along edge node forward)) at)

  -- to an end of an edge
  pub end_branch : (rest : List Step) (step : Step) (bound : Bound) (edge node : ℕ) (source : Bool) (id : NodeId) (admitted : Option Bound) → step ≡ End edge node source →
      Some id ≡ end_at source (Some bound) → admitted ≡ admitted_node resolved g atoms node id →
      option_map_or (can_be_given resolved g atoms rest node) admitted false ≡ any_next rest step bound
  end_branch rest step bound edge node source id admitted is at same =
      sym (ap (λ s. any_next rest s bound) is
      ∙ any_of_one (can_be_given resolved g atoms rest node) (option_and_then (admitted_node resolved g atoms node) (end_at source (Some bound)))
      ∙ ap (λ o. option_map_or (can_be_given resolved g atoms rest node) (option_and_then (admitted_node resolved g atoms node) o) false) (sym at)
      ∙ ap (λ o. option_map_or (can_be_given resolved g atoms rest node) o false) (sym same))

  pub end_branch_most : (rest : List Step) (step : Step) (bound : Bound) (edge node : ℕ) (source : Bool) (id : NodeId) (admitted : Option Bound) → step ≡ End edge node source →
      Some id ≡ end_at source (Some bound) → admitted ≡ admitted_node resolved g atoms node id →
      1 + option_map_or (asked_most resolved g atoms rest node) admitted 0 ≡ next_most rest step bound
  end_branch_most rest step bound edge node source id admitted is at same =
      sym (ap (λ s. next_most rest s bound) is
      ∙ ap (λ o. 1 + option_map_or (asked_most resolved g atoms rest node) (option_and_then (admitted_node resolved g atoms node) o) 0) (sym at)
      ∙ ap (λ o. 1 + option_map_or (asked_most resolved g atoms rest node) o 0) (sym same))

  pub no_end : (rest : List Step) (step : Step) (bound : Bound) (edge node : ℕ) (source : Bool) → step ≡ End edge node source → None ≡ end_at source (Some bound) → false ≡ any_next rest step bound
  no_end rest step bound edge node source is at =
      sym (ap (λ s. any_next rest s bound) is
      ∙ ap (λ o. list_any (can_be_given resolved g atoms rest node) (option_map_or (λ next. next ∷ []) (option_and_then (admitted_node resolved g atoms node) o) [])) (sym at))

  -- ---- a plan

  pub plan_given : (plan rest : List Step) (step : Step) (var : ℕ) (bound : Bound) → plan ≡ step ∷ rest →
      ((not (goes_from var step) || any_next rest step bound) && can_be_given resolved g atoms rest var bound) ≡ can_be_given resolved g atoms plan var bound
  plan_given plan rest step var bound first = sym (ap (λ p. can_be_given resolved g atoms p var bound) first)

  pub plan_most : (plan rest : List Step) (step : Step) (var : ℕ) (bound : Bound) → plan ≡ step ∷ rest →
      cond (goes_from var step) (next_most rest step bound) 0 + asked_most resolved g atoms rest var bound ≡ asked_most resolved g atoms plan var bound
  plan_most plan rest step var bound first = sym (ap (λ p. asked_most resolved g atoms p var bound) first)
