-- How many look-ups a search takes at most, and how many completions there are, by the degrees near the element.
use Rattle.std.proofs.Common.{◌≡◌, ℕ, zero, suc, ◌+◌, ◌*◌, ◌^◌, ◌≤◌, Bool, true, false, cond, List, [], ◌∷◌, length, slice_get, Option, Some, None, refl, sym, subst, arith}
use Rattle.std.specs.Prelude.{option_and_then}
use Rattle.std.specs.Option.{option_map_or}
use Rattle.std.specs.List.{list_all, sum_by}
use Rattle.std.proofs.Math.Nat.{pow-zero, pow-succ', mul-le-mul, mul-le-mul_right}
use Rattle.std.proofs.lemmas.List.Sums.{sum_by-cons}
use Rattle.std.proofs.lemmas.List.Concat.{length-flat_map}
use Rattle.pgs_base.specs.declared.element.NodeId.{NodeId}
use Rattle.pgs_base.specs.declared.element.EdgeId.{EdgeId}
use Rattle.pgs_base.specs.declared.element.Elem.{Elem}
use Rattle.pgs_base.specs.declared.row.NodeRow.{NodeRow}
use Rattle.pgs_base.specs.declared.row.EdgeRow.{EdgeRow}
use Rattle.pgs_base.specs.Graph.{Graph, node_at, edge_at, is_graph}
use Rattle.pgs_syntax.specs.declared.pattern.Atom.{Atom}
use Rattle.pgs_syntax.specs.declared.resolved.Resolved.{Resolved}
use Rattle.pgs_graph.specs.Reads.{out_edges_of, in_edges_of}
use Rattle.pgs_match.specs.declared.step.Step.{Step}
use Rattle.pgs_match.specs.declared.step.Step.TheVariants.{Along, End}
use Rattle.pgs_match.specs.declared.bindings.Bound.{Bound}
use Rattle.pgs_match.specs.declared.bindings.Bound.TheVariants as bounds
use Rattle.pgs_match.specs.Bounds.{bound_at, with_bound, end_at}
use Rattle.pgs_match.specs.Near.{IsSparse, is_within}
use Rattle.pgs_match.specs.Search.{edges_along, completions, most_steps}
use Rattle.pgs_match.specs.Tests.{edge_passes, node_passes, admitted_node, admitted_edge, agrees}
use Rattle.pgs_match.proofs.Nearby.{within_less, IsNear, AreNear, further, near_more, along_near, few_at, end_near}

-- along how many edges a plan goes, and how many ends it takes
abbrev pub alongs : List Step → ℕ
alongs [] = 0
alongs (Along edge node forward ∷ plan) = suc (alongs plan)
alongs (End edge node source ∷ plan) = alongs plan

abbrev pub ends : List Step → ℕ
ends [] = 0
ends (Along edge node forward ∷ plan) = ends plan
ends (End edge node source ∷ plan) = suc (ends plan)

-- ---- sums

pub sum_most : {X : Type 0} (f : X → ℕ) (xs : List X) (most : ℕ) → ((i : ℕ) (x : X) → slice_get xs i ≡ Some x → f x ≤ most) → sum_by f xs ≤ length xs * most
sum_most f [] most h = omega arith
sum_most f (x ∷ xs) most h =
    let first = h 0 x refl in
    let rest = sum_most f xs most (λ i y at. h (suc i) y at) in
    let cons = sum_by-cons f x xs in
    omega arith

sum_below : {X : Type 0} (f : X → ℕ) (xs : List X) (most : ℕ) → ((i : ℕ) (x : X) → slice_get xs i ≡ Some x → f x + 1 ≤ most) → sum_by f xs + length xs ≤ length xs * most
sum_below f [] most h = omega arith
sum_below f (x ∷ xs) most h =
    let first = h 0 x refl in
    let rest = sum_below f xs most (λ i y at. h (suc i) y at) in
    let cons = sum_by-cons f x xs in
    omega arith

-- an end more costs one look-up more
end_more : (power last ends_of steps : ℕ) → 1 ≤ power → steps + 4 ≤ power * (last + 4 + ends_of) → (1 + steps) + 4 ≤ power * (last + 4 + suc ends_of)
end_more power last ends_of steps one before = omega arith

-- an edge more costs as much for each edge of a node
along_more : (power more last ends_of d steps : ℕ) → 4 ≤ power * (last + 4 + ends_of) → steps ≤ d * (power * (last + 4 + ends_of)) + 1 → more ≡ (d + 2) * power →
    steps + 4 ≤ more * (last + 4 + ends_of)
along_more power more last ends_of d steps four before same =
    subst (λ p. steps + 4 ≤ p * (last + 4 + ends_of)) (sym same) (expanded power last ends_of d steps four before)
  where
    expanded : (power last ends_of d steps : ℕ) → 4 ≤ power * (last + 4 + ends_of) → steps ≤ d * (power * (last + 4 + ends_of)) + 1 → steps + 4 ≤ ((d + 2) * power) * (last + 4 + ends_of)
    expanded power last ends_of d steps four before = omega arith

pub one_at_least : (d a : ℕ) → 1 ≤ (d + 2) ^ a
one_at_least d zero = let one = pow-zero (d + 2) in omega arith
one_at_least d (suc a) = let rest = one_at_least d a in let more = pow-succ' (d + 2) a in omega arith

module _ (resolved : Resolved) (g : Graph) (graph : is_graph g ≡ true) (atoms : List Atom) (elem : Elem) (w d : ℕ) (sparse : IsSparse g w elem d) where
  -- what is admitted by a listed edge is near, and by the end of a near edge
  edge_near : (forward : Bool) (near : ℕ) (from : NodeId) (var : ℕ) (id : EdgeId) (i : ℕ) (x : Bound) → is_within g near elem from ≡ true →
      slice_get (cond forward (out_edges_of g from) (in_edges_of g from)) i ≡ Some id → admitted_edge resolved g atoms var id ≡ Some x → IsNear g elem (suc near) x
  edge_near forward near from var id i x within at admits = by (edge_at g id) refl admits
    where
      inner : (row : EdgeRow) → edge_at g id ≡ Some row → (b : Bool) → cond b (Some (bounds.Edge id row.source row.target)) None ≡ Some x → IsNear g elem (suc near) x
      inner row row_at true found =
          let same : bounds.Edge id row.source row.target ≡ x = cc in subst (IsNear g elem (suc near)) same (along_near g elem graph forward near from id row i within at row_at)
      inner row row_at false found = cc

      by : (o : Option EdgeRow) → edge_at g id ≡ o →
          option_and_then (λ (row : EdgeRow). cond (edge_passes resolved g atoms var row) (Some (bounds.Edge id row.source row.target)) None) o ≡ Some x → IsNear g elem (suc near) x
      by None row_at found = cc
      by (Some row) row_at found = inner row row_at (edge_passes resolved g atoms var row) found

  pub node_near : (near : ℕ) (source : Bool) (var : ℕ) (o : Option Bound) (x : Bound) → ((y : Bound) → o ≡ Some y → IsNear g elem near y) →
      option_and_then (admitted_node resolved g atoms var) (end_at source o) ≡ Some x → IsNear g elem near x
  node_near near source var o x all admits = by (end_at source o) refl admits
    where
      inner : (id : NodeId) → end_at source o ≡ Some id → admitted_node resolved g atoms var id ≡ Some x → IsNear g elem near x
      inner id at found = subst (IsNear g elem near) (is (node_at g id) found) (end_near g elem near source o id all at)
        where
          is_node : (b : Bool) → cond b (Some (bounds.Node id)) None ≡ Some x → bounds.Node id ≡ x
          is_node true here = cc
          is_node false here = cc

          is : (p : Option NodeRow) → option_and_then (λ (own : NodeRow). cond (node_passes resolved atoms var own) (Some (bounds.Node id)) None) p ≡ Some x → bounds.Node id ≡ x
          is None here = cc
          is (Some own) here = is_node (node_passes resolved atoms var own) here

      by : (p : Option NodeId) → end_at source o ≡ p → option_and_then (admitted_node resolved g atoms var) p ≡ Some x → IsNear g elem near x
      by None at found = cc
      by (Some id) at found = inner id at found

  -- the edges along a near binding are few
  pub few_edges : (forward : Bool) (near : ℕ) (o : Option Bound) → near ≤ w → ((y : Bound) → o ≡ Some y → IsNear g elem near y) → length (edges_along g forward o) ≤ d
  few_edges forward near None less all = omega arith
  few_edges forward near (Some (bounds.Edge id source target)) less all = omega arith
  few_edges forward near (Some (bounds.Node id)) less all =
      let degree = sparse id (within_less g elem near w id less (all (bounds.Node id) refl)) in let some = few_at g elem forward id in omega arith

  -- what is admitted by an edge along a near binding is near
  pub edges_near : (forward : Bool) (near var : ℕ) (o : Option Bound) (i : ℕ) (id : EdgeId) (x : Bound) → ((y : Bound) → o ≡ Some y → IsNear g elem near y) →
      slice_get (edges_along g forward o) i ≡ Some id → admitted_edge resolved g atoms var id ≡ Some x → IsNear g elem (suc near) x
  edges_near forward near var None i id x all at admits = cc
  edges_near forward near var (Some (bounds.Edge edge source target)) i id x all at admits = cc
  edges_near forward near var (Some (bounds.Node from)) i id x all at admits = edge_near forward near from var id i x (all (bounds.Node from) refl) at admits

  -- ---- completions

  option_length : {X : Type 0} (f : X → List (List (Option Bound))) (o : Option X) (most : ℕ) → ((x : X) → o ≡ Some x → length (f x) ≤ most) → length (option_map_or f o []) ≤ most
  option_length f None most h = omega arith
  option_length f (Some x) most h = h x refl

  pub few_completions : (plan : List Step) (b : List (Option Bound)) (near : ℕ) → near + alongs plan ≤ w → AreNear g elem near b →
      length (completions resolved g atoms plan b) ≤ (d + 2) ^ alongs plan
  few_completions [] b near within all = by (list_all (agrees b) atoms)
    where
      by : (t : Bool) → length (cond t (b ∷ []) []) ≤ (d + 2) ^ 0
      by true = one_at_least d 0
      by false = omega arith
  few_completions (Along edge node forward ∷ plan) b near within all =
      let ids = edges_along g forward (bound_at b node) in
      let f : EdgeId → List (List (Option Bound)) = λ id. option_map_or (λ x. completions resolved g atoms plan (with_bound b edge x)) (admitted_edge resolved g atoms edge id) [] in
      let part : sum_by (λ id. length (f id)) ids ≤ length ids * (d + 2) ^ alongs plan =
      sum_most (λ id. length (f id)) ids ((d + 2) ^ alongs plan)
      (λ i id at. option_length (λ x. completions resolved g atoms plan (with_bound b edge x)) (admitted_edge resolved g atoms edge id) ((d + 2) ^ alongs plan)
      (λ x admits. few_completions plan (with_bound b edge x) (suc near) (omega arith)
      (near_more g elem (suc near) b edge x (λ v y here. further g elem near y (all v y here)) (edges_near forward near edge (bound_at b node) i id x (λ y here. all node y here) at admits)))) in
      let few : length ids ≤ d = few_edges forward near (bound_at b node) (omega arith) (λ y here. all node y here) in
      let most = mul-le-mul_right ((d + 2) ^ alongs plan) few in
      let power = pow-succ' (d + 2) (alongs plan) in
      let whole = length-flat_map f ids in
      omega arith
  few_completions (End edge node source ∷ plan) b near within all =
      option_length (λ x. completions resolved g atoms plan (with_bound b node x)) (option_and_then (admitted_node resolved g atoms node) (end_at source (bound_at b edge))) ((d + 2) ^ alongs plan)
      (λ x admits. few_completions plan (with_bound b node x) near within (near_more g elem near b node x all (node_near near source node (bound_at b edge) x (λ y here. all edge y here) admits)))

  -- ---- look-ups

  option_most : (f : Bound → ℕ) (o : Option Bound) (most : ℕ) → 4 ≤ most → ((x : Bound) → o ≡ Some x → f x + 4 ≤ most) → option_map_or f o 0 + 4 ≤ most
  option_most f None most four h = omega arith
  option_most f (Some x) most four h = h x refl

  -- the bound of a plan, and that it is 4 at least
  abbrev pub bound_of : ℕ → List Step → ℕ
  bound_of last plan = (d + 2) ^ alongs plan * (last + 4 + ends plan)

  four_at_least : (last : ℕ) (plan : List Step) → 4 ≤ bound_of last plan
  four_at_least last plan = let some = mul-le-mul (one_at_least d (alongs plan)) (let four : 4 ≤ last + 4 + ends plan = omega arith in four) in omega arith

  module _ (last : ℕ) where
    pub along_most : (edge node : ℕ) (forward : Bool) (plan : List Step) (b : List (Option Bound)) (near : ℕ) → near + suc (alongs plan) ≤ w → AreNear g elem near b →
        ((x : Bound) → AreNear g elem (suc near) (with_bound b edge x) → most_steps resolved g atoms last plan (with_bound b edge x) + 4 ≤ bound_of last plan) →
        most_steps resolved g atoms last (Along edge node forward ∷ plan) b ≤ d * bound_of last plan + 1
    along_most edge node forward plan b near within all rest =
        let ids = edges_along g forward (bound_at b node) in
        let f : EdgeId → ℕ = λ id. 3 + option_map_or (λ x. most_steps resolved g atoms last plan (with_bound b edge x)) (admitted_edge resolved g atoms edge id) 0 in
        let each = sum_below f ids (bound_of last plan) (λ i id at.
        let one = option_most (λ x. most_steps resolved g atoms last plan (with_bound b edge x)) (admitted_edge resolved g atoms edge id) (bound_of last plan) (four_at_least last plan)
        (λ x admits. rest x (near_more g elem (suc near) b edge x (λ v y here. further g elem near y (all v y here))
        (edges_near forward near edge (bound_at b node) i id x (λ y here. all node y here) at admits))) in omega arith) in
        let few : length ids ≤ d = few_edges forward near (bound_at b node) (omega arith) (λ y here. all node y here) in
        let most = mul-le-mul_right (bound_of last plan) few in
        omega arith

    pub few_steps : (plan : List Step) (b : List (Option Bound)) (near : ℕ) → near + alongs plan ≤ w → AreNear g elem near b →
        most_steps resolved g atoms last plan b + 4 ≤ bound_of last plan
    few_steps [] b near within all = base
      where
        at_one : last + 4 ≤ 1 * (last + 4 + 0)
        at_one = omega arith

        base : last + 4 ≤ (d + 2) ^ 0 * (last + 4 + 0)
        base = subst (λ power. last + 4 ≤ power * (last + 4 + 0)) (sym (pow-zero (d + 2))) at_one
    few_steps (Along edge node forward ∷ plan) b near within all =
        along_more ((d + 2) ^ alongs plan) ((d + 2) ^ suc (alongs plan)) last (ends plan) d (most_steps resolved g atoms last (Along edge node forward ∷ plan) b) (four_at_least last plan)
        (along_most edge node forward plan b near within all (λ x near_here. few_steps plan (with_bound b edge x) (suc near) (omega arith) near_here))
        (pow-succ' (d + 2) (alongs plan))
    few_steps (End edge node source ∷ plan) b near within all =
        end_more ((d + 2) ^ alongs plan) last (ends plan) (option_map_or (λ x. most_steps resolved g atoms last plan (with_bound b node x)) (option_and_then (admitted_node resolved g atoms node) (end_at source (bound_at b edge))) 0)
        (one_at_least d (alongs plan))
        (option_most (λ x. most_steps resolved g atoms last plan (with_bound b node x)) (option_and_then (admitted_node resolved g atoms node) (end_at source (bound_at b edge)))
        (bound_of last plan) (four_at_least last plan)
        (λ x admits. few_steps plan (with_bound b node x) near within (near_more g elem near b node x all (node_near near source node (bound_at b edge) x (λ y here. all edge y here) admits))))
