-- A loop over the edges of a node: what is so of those before a place, of one more, and of all.
use Rattle.std.proofs.Common.{◌≡◌, ℕ, zero, suc, ◌+◌, ◌<◌, ◌≤◌, Bool, true, false, ◌||◌, List, [], ◌∷◌, length, fold, take, get_or, slice_get, Option, Some, None, refl, sym, ap, ◌∙◌, arith}
use Rattle.std.specs.Option.{option_map_or}
use Rattle.std.specs.List.{list_any, sum_by}
use Rattle.std.proofs.lemmas.List.Folds.{list_any_more, list_any_at}
use Rattle.std.proofs.lemmas.List.Sums.{fold_more, sum_by_more, sum_by-take-le}
use Rattle.pgs_base.specs.declared.element.EdgeId.{EdgeId}
use Rattle.pgs_base.specs.declared.element.NodeId.{NodeId}
use Rattle.pgs_base.specs.declared.part.Part.{Part}
use Rattle.pgs_base.specs.Graph.{Graph}
use Rattle.pgs_syntax.specs.declared.pattern.Atom.{Atom}
use Rattle.pgs_syntax.specs.declared.pattern.Expr.{Expr}
use Rattle.pgs_syntax.specs.declared.resolved.Resolved.{Resolved}
use Rattle.pgs_match.specs.declared.step.Step.{Step}
use Rattle.pgs_match.specs.declared.step.Step.TheVariants.{Along}
use Rattle.pgs_match.specs.declared.bindings.Bound.{Bound}
use Rattle.pgs_match.specs.declared.bindings.Bound.TheVariants as bounds
use Rattle.pgs_match.specs.Bounds.{bound_at, with_bound}
use Rattle.pgs_match.specs.Plans.{bound_by}
use Rattle.pgs_match.specs.Search.{can_complete, edges_along, gathered, most_steps}
use Rattle.pgs_match.specs.Tests.{admitted_edge}

module _ (resolved : Resolved) (g : Graph) (atoms : List Atom) (plan : List Step) (b : List (Option Bound)) (var : ℕ) where
  -- whether the plan can go on with an edge, and how many look-ups that takes at most
  abbrev pub can_with : EdgeId → Bool
  can_with id = option_map_or (λ bound. can_complete resolved g atoms plan (with_bound b var bound)) (admitted_edge resolved g atoms var id) false

  abbrev pub steps_with : ℕ → EdgeId → ℕ
  steps_with last id = 3 + option_map_or (λ bound. most_steps resolved g atoms last plan (with_bound b var bound)) (admitted_edge resolved g atoms var id) 0

  -- tuples with those that are gathered with an edge
  abbrev pub gathered_with : List Expr → List (List Part) → EdgeId → List (List Part)
  gathered_with exprs so_far id =
      option_map_or (λ bound. gathered resolved g atoms exprs plan (with_bound b var bound) so_far) (admitted_edge resolved g atoms var id) so_far

  -- the same by what was admitted
  pub can_by : (id : EdgeId) (admitted : Option Bound) → admitted ≡ admitted_edge resolved g atoms var id →
      option_map_or (λ bound. can_complete resolved g atoms plan (with_bound b var bound)) admitted false ≡ can_with id
  can_by id admitted same = ap (λ o. option_map_or (λ bound. can_complete resolved g atoms plan (with_bound b var bound)) o false) same

  pub steps_by : (last : ℕ) (id : EdgeId) (admitted : Option Bound) → admitted ≡ admitted_edge resolved g atoms var id → (now mid after : ℕ) →
      mid ≤ now + 3 → after ≤ mid + option_map_or (λ bound. most_steps resolved g atoms last plan (with_bound b var bound)) admitted 0 → after ≤ now + steps_with last id
  steps_by last id admitted same now mid after few more =
      let here = ap (λ o. option_map_or (λ bound. most_steps resolved g atoms last plan (with_bound b var bound)) o 0) same in
      omega arith

  pub gathered_by : (exprs : List Expr) (so_far : List (List Part)) (id : EdgeId) (admitted : Option Bound) → admitted ≡ admitted_edge resolved g atoms var id →
      option_map_or (λ bound. gathered resolved g atoms exprs plan (with_bound b var bound) so_far) admitted so_far ≡ gathered_with exprs so_far id
  gathered_by exprs so_far id admitted same = ap (λ o. option_map_or (λ bound. gathered resolved g atoms exprs plan (with_bound b var bound) so_far) o so_far) same

-- what the edges of a node come to, where a plan begins with them
module _ (resolved : Resolved) (g : Graph) (atoms : List Atom) (plan rest : List Step) (before b : List (Option Bound)) (step : Step) (edge node var : ℕ) (forward : Bool) (from : NodeId)
    (first : plan ≡ step ∷ rest) (along : step ≡ Along edge node forward) (named : var ≡ bound_by step) (same : b ≡ before) (at : Some (bounds.Node from) ≡ bound_at before node) where
  pub steps_along : (last : ℕ) → length (edges_along g forward (Some (bounds.Node from))) + 1
      + sum_by (steps_with resolved g atoms rest b var last) (edges_along g forward (Some (bounds.Node from))) ≡ most_steps resolved g atoms last plan before
  steps_along last =
      let count = λ (v : ℕ) (bindings : List (Option Bound)) (end : Option Bound).
      length (edges_along g forward end) + 1 + sum_by (steps_with resolved g atoms rest bindings v last) (edges_along g forward end) in
      (λ i. count ((named ∙ ap bound_by along) i) (same i) (at i)) ∙ sym (ap (λ p. most_steps resolved g atoms last p before) (first ∙ ap (λ s. s ∷ rest) along))

  pub gathered_along : (exprs : List Expr) (tuples : List (List Part)) →
      fold (gathered_with resolved g atoms rest b var exprs) tuples (edges_along g forward (Some (bounds.Node from))) ≡ gathered resolved g atoms exprs plan before tuples
  gathered_along exprs tuples =
      let all = λ (v : ℕ) (bindings : List (Option Bound)) (end : Option Bound).
      fold (gathered_with resolved g atoms rest bindings v exprs) tuples (edges_along g forward end) in
      (λ i. all ((named ∙ ap bound_by along) i) (same i) (at i)) ∙ sym (ap (λ p. gathered resolved g atoms exprs p before tuples) (first ∙ ap (λ s. s ∷ rest) along))

pub at_place : {X : Type 0} (xs : List X) (i : ℕ) (x : X) → slice_get xs i ≡ Some x → (i < length xs) × (get_or xs i x ≡ x)
at_place [] i x h = cc
at_place (y ∷ ys) zero x h = (omega arith, let e : y ≡ x = cc in e)
at_place (y ∷ ys) (suc i) x h = let rest = at_place ys i x h in (omega (arith, rest.0), rest.1)

pub past_end : {X : Type 0} (xs : List X) (i : ℕ) → slice_get xs i ≡ None → length xs ≤ i
past_end [] i h = omega arith
past_end (y ∷ ys) zero h = cc
past_end (y ∷ ys) (suc i) h = let rest = past_end ys i h in omega arith

pub take_whole : {X : Type 0} (xs : List X) (i : ℕ) → length xs ≤ i → take i xs ≡ xs
take_whole [] zero h = refl
take_whole [] (suc i) h = refl
take_whole (y ∷ ys) zero h = absurd (omega arith)
take_whole (y ∷ ys) (suc i) h = ap (λ zs. y ∷ zs) (take_whole ys i (omega arith))

module _ {X : Type 0} (p : X → Bool) (xs : List X) (i : ℕ) where
  pub none_more : (x : X) → slice_get xs i ≡ Some x → list_any p (take i xs) ≡ false → p x ≡ false → list_any p (take (i + 1) xs) ≡ false
  none_more x at before here =
      let place = at_place xs i x at in
      list_any_more p xs i x place.0 ∙ ap (λ t. t || p (get_or xs i x)) before ∙ ap p place.1 ∙ here

  pub one_found : (x : X) → slice_get xs i ≡ Some x → p x ≡ true → list_any p xs ≡ true
  one_found x at here = let place = at_place xs i x at in list_any_at p xs i x place.0 (ap p place.1 ∙ here)

  pub none_at_all : length xs ≤ i → list_any p (take i xs) ≡ false → list_any p xs ≡ false
  none_at_all end before = ap (list_any p) (sym (take_whole xs i end)) ∙ before

module _ {X : Type 0} (f : X → ℕ) (xs : List X) (i : ℕ) (x : X) (at : slice_get xs i ≡ Some x) (start now after : ℕ)
    (before : now ≤ start + (i + sum_by f (take i xs))) (step : after ≤ now + 1 + f x) where
  pub cost_more : after ≤ start + ((i + 1) + sum_by f (take (i + 1) xs))
  cost_more =
      let place = at_place xs i x at in
      let more = sum_by_more f xs i x place.0 in
      let same : f (get_or xs i x) ≡ f x = ap f place.1 in
      omega arith

  pub cost_all : after ≤ start + (length xs + 1 + sum_by f xs)
  cost_all =
      let place = at_place xs i x at in
      let below : i < length xs = place.0 in
      let part = sum_by-take-le f xs (i + 1) in
      let more = cost_more in
      omega arith

-- what a fold makes of one more, and of all
module _ {X S : Type 0} (f : S → X → S) (start : S) (xs : List X) (i : ℕ) where
  pub fold_one_more : (x : X) → slice_get xs i ≡ Some x → f (fold f start (take i xs)) x ≡ fold f start (take (i + 1) xs)
  fold_one_more x at =
      let place = at_place xs i x at in
      sym (fold_more f start xs i x place.0 ∙ ap (f (fold f start (take i xs))) place.1)

  pub fold_all : length xs ≤ i → fold f start (take i xs) ≡ fold f start xs
  fold_all end = ap (fold f start) (take_whole xs i end)
