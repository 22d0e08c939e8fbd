-- Searches along the steps on the way to some variables of a tree: of what hangs off the way it is asked alone whether it can be given.
use Rattle.std.specs.Prelude.{ℕ, ◌+◌, Bool, ◌||◌, ◌==◌, cond, List, [], ◌∷◌, length, Option, Some, None, option_and_then}
use Rattle.std.specs.Option.{option_map_or}
use Rattle.std.specs.List.{list_any, flat_map, sum_by}
use Rattle.std.specs.BTreeSet.{insert_key}
use Rattle.pgs_base.specs.declared.element.Elem.{Elem}
use Rattle.pgs_base.specs.declared.part.Part.{Part}
use Rattle.pgs_base.specs.Graph.{Graph}
use Rattle.pgs_base.specs.Order.{tuple_cmp}
use Rattle.pgs_syntax.specs.declared.pattern.Atom.{Atom}
use Rattle.pgs_syntax.specs.declared.pattern.Expr.{Expr}
use Rattle.pgs_syntax.specs.declared.pattern.Pattern.{Pattern}
use Rattle.pgs_syntax.specs.declared.resolved.Resolved.{Resolved}
use Rattle.pgs_match.specs.declared.step.Step.{Step}
use Rattle.pgs_match.specs.declared.step.Step.TheVariants.{Along, End}
use Rattle.pgs_match.specs.declared.bindings.Bound.{Bound}
use Rattle.pgs_match.specs.Bounds.{bound_at, with_bound, nothing_bound, end_at}
use Rattle.pgs_match.specs.Branches.{goes_from, can_be_given, walked, asked_most}
use Rattle.pgs_match.specs.Plans.{bound_by}
use Rattle.pgs_match.specs.Search.{edges_along, tuple_at}
use Rattle.pgs_match.specs.Tests.{admitted_node, admitted_edge, admitted}

-- whether a step is on the way to wanted variables: it binds one, or a step on the way goes on from what it binds
abbrev pub is_on_way : List ℕ → List Step → Step → Bool
is_on_way wanted ways step = list_any (λ var. var == bound_by step) wanted || list_any (goes_from (bound_by step)) ways

-- the steps of a plan on the way to wanted variables, and the others
abbrev pub on_way : List ℕ → List Step → List Step
on_way wanted [] = []
on_way wanted (step ∷ plan) = cond (is_on_way wanted (on_way wanted plan) step) (step ∷ on_way wanted plan) (on_way wanted plan)

abbrev pub off_way : List ℕ → List Step → List Step
off_way wanted [] = []
off_way wanted (step ∷ plan) = cond (is_on_way wanted (on_way wanted plan) step) (off_way wanted plan) (step ∷ off_way wanted plan)

module _ (resolved : Resolved) (g : Graph) (atoms : List Atom) (off : List Step) where
  -- to what a variable is bound by what was admitted, where all can be given that hangs on it off the way
  abbrev pub whole : ℕ → Option Bound → Option Bound
  whole var admitted = option_and_then (λ bound. cond (can_be_given resolved g atoms off var bound) (Some bound) None) admitted

  -- all bindings to which steps on the way lead from bindings
  abbrev pub routes : List Step → List (Option Bound) → List (List (Option Bound))
  routes [] bindings = bindings ∷ []
  routes (Along edge node forward ∷ ways) bindings =
      flat_map (λ id. option_map_or (λ bound. routes ways (with_bound bindings edge bound)) (whole edge (admitted_edge resolved g atoms edge id)) [])
      (edges_along g forward (bound_at bindings node))
  routes (End edge node source ∷ ways) bindings =
      option_map_or (λ bound. routes ways (with_bound bindings node bound))
      (whole node (option_and_then (admitted_node resolved g atoms node) (end_at source (bound_at bindings edge)))) []

  -- how many look-ups it takes at most to come to all of them, where each takes so many more
  abbrev pub way_most : ℕ → List Step → List (Option Bound) → ℕ
  way_most last [] bindings = last
  way_most last (Along edge node forward ∷ ways) bindings =
      length (edges_along g forward (bound_at bindings node)) + 1
      + sum_by (λ id. 3 + option_map_or (λ bound. asked_most resolved g atoms off edge bound + way_most last ways (with_bound bindings edge bound))
      (admitted_edge resolved g atoms edge id) 0) (edges_along g forward (bound_at bindings node))
  way_most last (End edge node source ∷ ways) bindings =
      1 + option_map_or (λ bound. asked_most resolved g atoms off node bound + way_most last ways (with_bound bindings node bound))
      (option_and_then (admitted_node resolved g atoms node) (end_at source (bound_at bindings edge))) 0

  -- The edges plus 2 of all that the routes go on from, each counted once a route, and the sums over the walks off the way from each that
  -- they come to.
  abbrev pub routed : List Step → List (Option Bound) → ℕ
  routed [] bindings = 1
  routed (Along edge node forward ∷ ways) bindings =
      length (edges_along g forward (bound_at bindings node)) + 2
      + sum_by (λ id. option_map_or (λ bound. walked resolved g atoms off edge bound + routed ways (with_bound bindings edge bound))
      (admitted_edge resolved g atoms edge id) 0) (edges_along g forward (bound_at bindings node))
  routed (End edge node source ∷ ways) bindings =
      2 + option_map_or (λ bound. walked resolved g atoms off node bound + routed ways (with_bound bindings node bound))
      (option_and_then (admitted_node resolved g atoms node) (end_at source (bound_at bindings edge))) 0

-- the same sums from an element at a variable, where the routes go to wanted ones; 1 where the element isn't admitted there
abbrev pub routed_from : Resolved → Graph → Pattern → List ℕ → List Step → ℕ → Elem → ℕ
routed_from resolved g pattern wanted plan var elem =
    option_map_or (λ bound. walked resolved g pattern.atoms (off_way wanted plan) var bound
    + routed resolved g pattern.atoms (off_way wanted plan) (on_way wanted plan) (with_bound nothing_bound var bound))
    (admitted resolved g pattern var elem) 1

-- tuples with the one that expressions give under bindings, where they give one
abbrev pub with_tuple : Graph → List Expr → List (List Part) → List (Option Bound) → List (List Part)
with_tuple g exprs tuples bindings = option_map_or (insert_key tuple_cmp tuples) (tuple_at g exprs bindings) tuples
