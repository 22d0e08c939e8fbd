-- A loop over the edges of a node where tuples are gathered along the routes.
use Rattle.std.proofs.Common.{◌≡◌, ℕ, ◌+◌, ◌≤◌, Bool, List, [], ◌∷◌, ◌++◌, length, fold, Option, Some, refl, sym, ap, ◌∙◌, arith}
use Rattle.std.specs.Option.{option_map_or}
use Rattle.std.specs.List.{flat_map, sum_by}
use Rattle.pgs_base.specs.declared.element.EdgeId.{EdgeId}
use Rattle.pgs_base.specs.declared.element.NodeId.{NodeId}
use Rattle.pgs_base.specs.declared.part.Part.{Part}
use Rattle.pgs_base.specs.Graph.{Graph}
use Rattle.pgs_syntax.specs.declared.pattern.Atom.{Atom}
use Rattle.pgs_syntax.specs.declared.pattern.Expr.{Expr}
use Rattle.pgs_syntax.specs.declared.resolved.Resolved.{Resolved}
use Rattle.pgs_match.specs.declared.step.Step.{Step}
use Rattle.pgs_match.specs.declared.step.Step.TheVariants.{Along}
use Rattle.pgs_match.specs.declared.bindings.Bound.{Bound}
use Rattle.pgs_match.specs.declared.bindings.Bound.TheVariants as bounds
use Rattle.pgs_match.specs.Bounds.{bound_at, with_bound}
use Rattle.pgs_match.specs.Branches.{asked_most}
use Rattle.pgs_match.specs.Plans.{bound_by}
use Rattle.pgs_match.specs.Routes.{whole, routes, with_tuple, way_most}
use Rattle.pgs_match.specs.Search.{edges_along}
use Rattle.pgs_match.specs.Tests.{admitted_edge}

fold_over : {X S : Type 0} (f : S → X → S) (start : S) (xs ys : List X) → fold f start (xs ++ ys) ≡ fold f (fold f start xs) ys
fold_over f start [] ys = refl
fold_over f start (x ∷ xs) ys = fold_over f (f start x) xs ys

-- a fold over lists joined is a fold over the lists
pub fold_flat : {X B S : Type 0} (f : S → B → S) (h : X → List B) (start : S) (xs : List X) → fold f start (flat_map h xs) ≡ fold (λ so_far x. fold f so_far (h x)) start xs
fold_flat f h start [] = refl
fold_flat f h start (x ∷ xs) = fold_over f start (h x) (flat_map h xs) ∙ fold_flat f h (fold f start (h x)) xs

module _ (resolved : Resolved) (g : Graph) (atoms : List Atom) (off rest : List Step) (b : List (Option Bound)) (var : ℕ) where
  -- the routes with an edge, and tuples with those under them
  abbrev pub routes_with : EdgeId → List (List (Option Bound))
  routes_with id = option_map_or (λ bound. routes resolved g atoms off rest (with_bound b var bound)) (whole resolved g atoms off var (admitted_edge resolved g atoms var id)) []

  abbrev pub tuples_with : List Expr → List (List Part) → EdgeId → List (List Part)
  tuples_with exprs so_far id = fold (with_tuple g exprs) so_far (routes_with id)

  -- the same by what was admitted
  pub tuples_by : (exprs : List Expr) (so_far : List (List Part)) (id : EdgeId) (admitted : Option Bound) → admitted ≡ admitted_edge resolved g atoms var id →
      fold (with_tuple g exprs) so_far (option_map_or (λ bound. routes resolved g atoms off rest (with_bound b var bound)) (whole resolved g atoms off var admitted) []) ≡ tuples_with exprs so_far id
  tuples_by exprs so_far id admitted same =
      ap (λ o. fold (with_tuple g exprs) so_far (option_map_or (λ bound. routes resolved g atoms off rest (with_bound b var bound)) (whole resolved g atoms off var o) [])) same

  -- how many look-ups an edge takes at most, and the same by what was admitted
  abbrev pub way_with : ℕ → EdgeId → ℕ
  way_with last id =
      3 + option_map_or (λ bound. asked_most resolved g atoms off var bound + way_most resolved g atoms off last rest (with_bound b var bound)) (admitted_edge resolved g atoms var id) 0

  pub way_by : (last : ℕ) (id : EdgeId) (admitted : Option Bound) → admitted ≡ admitted_edge resolved g atoms var id → (now mid after : ℕ) → mid ≤ now + 3 →
      after ≤ mid + option_map_or (λ bound. asked_most resolved g atoms off var bound + way_most resolved g atoms off last rest (with_bound b var bound)) admitted 0 → after ≤ now + way_with last id
  way_by last id admitted same now mid after few more =
      let here = ap (λ o. option_map_or (λ bound. asked_most resolved g atoms off var bound + way_most resolved g atoms off last rest (with_bound b var bound)) o 0) same in
      omega arith

-- the routes where the steps begin with the edges of a node
module _ (resolved : Resolved) (g : Graph) (atoms : List Atom) (off plan rest : List Step) (before b : List (Option Bound)) (step : Step) (edge node var : ℕ) (forward : Bool) (from : NodeId)
    (first : plan ≡ step ∷ rest) (along : step ≡ Along edge node forward) (named : var ≡ bound_by step) (same : b ≡ before) (at : Some (bounds.Node from) ≡ bound_at before node) where
  pub routes_along : flat_map (routes_with resolved g atoms off rest b var) (edges_along g forward (Some (bounds.Node from))) ≡ routes resolved g atoms off plan before
  routes_along =
      let all = λ (v : ℕ) (bindings : List (Option Bound)) (end : Option Bound). flat_map (routes_with resolved g atoms off rest bindings v) (edges_along g forward end) in
      (λ i. all ((named ∙ ap bound_by along) i) (same i) (at i)) ∙ sym (ap (λ p. routes resolved g atoms off p before) (first ∙ ap (λ s. s ∷ rest) along))

  pub most_along : (last : ℕ) → length (edges_along g forward (Some (bounds.Node from))) + 1
      + sum_by (way_with resolved g atoms off rest b var last) (edges_along g forward (Some (bounds.Node from))) ≡ way_most resolved g atoms off last plan before
  most_along last =
      let count = λ (v : ℕ) (bindings : List (Option Bound)) (end : Option Bound).
      length (edges_along g forward end) + 1 + sum_by (way_with resolved g atoms off rest bindings v last) (edges_along g forward end) in
      (λ i. count ((named ∙ ap bound_by along) i) (same i) (at i)) ∙ sym (ap (λ p. way_most resolved g atoms off last p before) (first ∙ ap (λ s. s ∷ rest) along))
