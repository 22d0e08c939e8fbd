-- Where the steps of a plan lead back to: from elements at variables, step by step, toward the variable from which the plan goes.
use Rattle.std.specs.Prelude.{ℕ, ◌+◌, ◌*◌, Bool, ◌==◌, not, nat_lt, cond, List, [], ◌∷◌, length, map, filter, Option, None, option_map, option_and_then}
use Rattle.std.specs.Option.{option_map_or}
use Rattle.std.specs.List.{Contains, list_all, flat_map, sum_by}
use Rattle.pgs_base.specs.declared.element.NodeId.{NodeId}
use Rattle.pgs_base.specs.declared.element.EdgeId.{EdgeId}
use Rattle.pgs_base.specs.declared.element.Elem.{Elem}
use Rattle.pgs_base.specs.declared.element.Elem.TheVariants.{Node, Edge}
use Rattle.pgs_base.specs.declared.row.EdgeRow.{EdgeRow}
use Rattle.pgs_base.specs.Graph.{Graph, edge_at}
use Rattle.pgs_graph.specs.Reads.{out_edges_of, in_edges_of, degree_of}
use Rattle.pgs_syntax.specs.declared.pattern.Atom.{Atom}
use Rattle.pgs_syntax.specs.declared.pattern.Pattern.{Pattern}
use Rattle.pgs_syntax.specs.declared.resolved.Resolved.{Resolved}
use Rattle.pgs_match.specs.declared.step.Step.{Step}
use Rattle.pgs_match.specs.declared.step.Step.TheVariants.{Along, End}
use Rattle.pgs_match.specs.declared.stand.Stand.{Stand}
use Rattle.pgs_match.specs.declared.bindings.Bound.{Bound}
use Rattle.pgs_match.specs.Bounds.{elem_of}
use Rattle.pgs_match.specs.Near.{IsSparse, IsNearTo}
use Rattle.pgs_match.specs.Plans.{bound_by}
use Rattle.pgs_match.specs.Tests.{admitted_node, admitted_edge}

-- an element at a variable
abbrev pub stand_at : ℕ → Elem → Stand
stand_at var elem = record { var = var; elem = elem }

-- what was admitted at a variable, where something was
abbrev pub stands_of : ℕ → Option Bound → List Stand
stands_of var admitted = option_map_or (λ bound. stand_at var (elem_of bound) ∷ []) admitted []

-- of stands, the elements at a variable, and those at other variables
abbrev pub elems_at : ℕ → List Stand → List Elem
elems_at var stands = map (λ (stand : Stand). stand.elem) (filter (λ (stand : Stand). stand.var == var) stands)

abbrev pub not_at : ℕ → List Stand → List Stand
not_at var stands = filter (λ (stand : Stand). not (stand.var == var)) stands

-- the node at an end of an edge that is there
abbrev pub end_in : Graph → Bool → Elem → Option NodeId
end_in g source (Edge id) = option_map (λ (row : EdgeRow). cond source row.source row.target) (edge_at g id)
end_in g source (Node id) = None

-- the edges that go out of a node, or come in at it
abbrev pub edges_in : Graph → Bool → Elem → List EdgeId
edges_in g forward (Node id) = cond forward (out_edges_of g id) (in_edges_of g id)
edges_in g forward (Edge id) = []

-- how many look-ups it takes at most to come to these
abbrev pub back_most : Graph → Step → Elem → ℕ
back_most g (Along edge node forward) (Edge id) = 2
back_most g (Along edge node forward) (Node id) = 0
back_most g (End edge node source) (Node id) = 4 * length (edges_in g source (Node id)) + 1
back_most g (End edge node source) (Edge id) = 0

abbrev pub one_most : Graph → Step → Stand → ℕ
one_most g step stand = cond (stand.var == bound_by step) (back_most g step stand.elem) 0

module _ (resolved : Resolved) (g : Graph) (atoms : List Atom) where
  -- from what a step may have come to an element: the node at the end of the edge, or the edges at the node, that are admitted there
  abbrev pub back : Step → Elem → List Stand
  back (Along edge node forward) elem = stands_of node (option_and_then (admitted_node resolved g atoms node) (end_in g forward elem))
  back (End edge node source) elem = flat_map (λ id. stands_of edge (admitted_edge resolved g atoms edge id)) (edges_in g source elem)

  -- the same of an element at the variable that the step binds; at any other it stays
  abbrev pub one_back : Step → Stand → List Stand
  one_back step stand = cond (stand.var == bound_by step) (back step stand.elem) (stand ∷ [])

  -- where the steps of a plan lead back to, the last step first
  abbrev pub led_back : List Step → Stand → List Stand
  led_back [] stand = stand ∷ []
  led_back (step ∷ plan) stand = flat_map (one_back step) (led_back plan stand)

  -- how many look-ups that takes at most, where each is gone back from once a walk
  abbrev pub led_most : List Step → Stand → ℕ
  led_most [] stand = 0
  led_most (step ∷ plan) stand = led_most plan stand + sum_by (one_most g step) (led_back plan stand)

-- a list of stands has all of another
abbrev pub HasAll : List Stand → List Stand → Type 0
HasAll pairs stands = (stand : Stand) → Contains stands stand → Contains pairs stand

-- A list of stands has all that walks pass which go back from starts by steps: it has each start, and with each stand all that a step leads back
-- to from it.
abbrev pub HasPassed : Resolved → Graph → List Atom → List Step → List Stand → List Stand → Type 0
HasPassed resolved g atoms plan starts pairs =
    HasAll pairs starts × ((step : Step) → Contains plan step → (stand : Stand) → Contains pairs stand → HasAll pairs (one_back resolved g atoms step stand))

-- how many look-ups it takes at most where each of some stands is gone back from once
abbrev pub once_most : Graph → List Step → List Stand → ℕ
once_most g plan pairs = sum_by (λ step. sum_by (one_most g step) pairs) plan

-- how many edges an element has; none where it is an edge
abbrev pub elem_degree : Graph → Elem → ℕ
elem_degree g (Node id) = degree_of g id
elem_degree g (Edge id) = 0

-- an element is within so many edges of some start
abbrev pub IsNearSome : Graph → ℕ → List Stand → Elem → Type 0
IsNearSome g edges starts elem = (start : Stand) × Contains starts start × IsNearTo g edges start.elem elem

-- no node within so many edges of a start has a greater in-degree plus out-degree
abbrev pub AreSparseFrom : Graph → ℕ → List Stand → ℕ → Type 0
AreSparseFrom g edges starts most = (start : Stand) → Contains starts start → IsSparse g edges start.elem most

-- each start is at a variable of the pattern
abbrev pub are_in_range : Pattern → List Stand → Bool
are_in_range pattern starts = list_all (λ (start : Stand). nat_lt start.var (length pattern.edge_vars)) starts
