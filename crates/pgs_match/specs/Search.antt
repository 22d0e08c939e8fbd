-- What a search along a plan comes to: each step binds a variable to each element that is possible and passes its tests, and at the
-- end the bindings of the edge places must agree.
use Rattle.std.specs.Prelude.{ℕ, ◌+◌, Bool, false, cond, List, [], ◌∷◌, length, fold, Option, Some, option_map, option_and_then}
use Rattle.std.specs.Option.{option_map_or}
use Rattle.std.specs.List.{list_any, list_all, flat_map, sum_by}
use Rattle.std.specs.BTreeSet.{insert_key}
use Rattle.pgs_base.specs.declared.element.EdgeId.{EdgeId}
use Rattle.pgs_base.specs.declared.part.Part.{Part}
use Rattle.pgs_base.specs.declared.part.Part.TheVariants as parts
use Rattle.pgs_base.specs.declared.row.NodeRow.{NodeRow}
use Rattle.pgs_base.specs.Graph.{Graph}
use Rattle.pgs_base.specs.Order.{tuple_cmp}
use Rattle.pgs_base.specs.Pair.{value_at}
use Rattle.pgs_syntax.specs.declared.pattern.Atom.{Atom}
use Rattle.pgs_syntax.specs.declared.pattern.Expr.{Expr}
use Rattle.pgs_syntax.specs.declared.pattern.Expr.TheVariants.{Element, Property}
use Rattle.pgs_syntax.specs.declared.resolved.Resolved.{Resolved}
use Rattle.pgs_syntax.specs.Matches.{carried}
use Rattle.pgs_graph.specs.Reads.{out_edges_of, in_edges_of}
use Rattle.pgs_match.specs.declared.step.Step.{Step}
use Rattle.pgs_match.specs.declared.step.Step.TheVariants.{Along, End}
use Rattle.pgs_match.specs.declared.bindings.Bound.{Bound}
use Rattle.pgs_match.specs.declared.bindings.Bound.TheVariants as bounds
use Rattle.pgs_match.specs.Bounds.{elem_of, bound_at, with_bound, end_at}
use Rattle.pgs_match.specs.Tests.{admitted_node, admitted_edge, agrees}

-- the edges that go out of a bound node, or come in at it
abbrev pub edges_along : Graph → Bool → Option Bound → List EdgeId
edges_along g forward (Some (bounds.Node id)) = cond forward (out_edges_of g id) (in_edges_of g id)
edges_along g forward _ = []

-- what an expression gives under bindings, and the tuple of expressions, where each gives something
abbrev pub part_at : Graph → List (Option Bound) → Expr → Option Part
part_at g bindings (Element var) = option_map (λ bound. parts.Elem (elem_of bound)) (bound_at bindings var)
part_at g bindings (Property var key) =
    option_map parts.Value
    (option_and_then (λ (own : NodeRow). value_at key own.props)
    (option_and_then (λ bound. carried g (elem_of bound)) (bound_at bindings var)))

abbrev pub tuple_at : Graph → List Expr → List (Option Bound) → Option (List Part)
tuple_at g [] bindings = Some []
tuple_at g (expr ∷ exprs) bindings =
    option_and_then (λ part. option_map (λ rest. part ∷ rest) (tuple_at g exprs bindings)) (part_at g bindings expr)

module _ (resolved : Resolved) (g : Graph) (atoms : List Atom) where
  -- all bindings to which a plan completes bindings
  abbrev pub completions : List Step → List (Option Bound) → List (List (Option Bound))
  completions [] bindings = cond (list_all (agrees bindings) atoms) (bindings ∷ []) []
  completions (Along edge node forward ∷ plan) bindings =
      flat_map (λ id.
      option_map_or (λ bound. completions plan (with_bound bindings edge bound)) (admitted_edge resolved g atoms edge id) [])
      (edges_along g forward (bound_at bindings node))
  completions (End edge node source ∷ plan) bindings =
      option_map_or (λ bound. completions plan (with_bound bindings node bound))
      (option_and_then (admitted_node resolved g atoms node) (end_at source (bound_at bindings edge))) []

  -- whether there is one
  abbrev pub can_complete : List Step → List (Option Bound) → Bool
  can_complete [] bindings = list_all (agrees bindings) atoms
  can_complete (Along edge node forward ∷ plan) bindings =
      list_any (λ id.
      option_map_or (λ bound. can_complete plan (with_bound bindings edge bound)) (admitted_edge resolved g atoms edge id) false)
      (edges_along g forward (bound_at bindings node))
  can_complete (End edge node source ∷ plan) bindings =
      option_map_or (λ bound. can_complete plan (with_bound bindings node bound))
      (option_and_then (admitted_node resolved g atoms node) (end_at source (bound_at bindings edge))) false

  -- tuples with those that expressions give under them
  abbrev pub gathered : List Expr → List Step → List (Option Bound) → List (List Part) → List (List Part)
  gathered exprs [] bindings tuples =
      cond (list_all (agrees bindings) atoms) (option_map_or (insert_key tuple_cmp tuples) (tuple_at g exprs bindings) tuples) tuples
  gathered exprs (Along edge node forward ∷ plan) bindings tuples =
      fold (λ so_far id. option_map_or (λ bound. gathered exprs plan (with_bound bindings edge bound) so_far)
      (admitted_edge resolved g atoms edge id) so_far) tuples (edges_along g forward (bound_at bindings node))
  gathered exprs (End edge node source ∷ plan) bindings tuples =
      option_map_or (λ bound. gathered exprs plan (with_bound bindings node bound) tuples)
      (option_and_then (admitted_node resolved g atoms node) (end_at source (bound_at bindings edge))) tuples

  -- how many look-ups the search takes at most, where each completion takes so many
  abbrev pub most_steps : ℕ → List Step → List (Option Bound) → ℕ
  most_steps last [] bindings = last
  most_steps last (Along edge node forward ∷ plan) bindings =
      length (edges_along g forward (bound_at bindings node)) + 1
      + sum_by (λ id.
      3 + option_map_or (λ bound. most_steps last plan (with_bound bindings edge bound)) (admitted_edge resolved g atoms edge id) 0)
      (edges_along g forward (bound_at bindings node))
  most_steps last (End edge node source ∷ plan) bindings =
      1 + option_map_or (λ bound. most_steps last plan (with_bound bindings node bound))
      (option_and_then (admitted_node resolved g atoms node) (end_at source (bound_at bindings edge))) 0
