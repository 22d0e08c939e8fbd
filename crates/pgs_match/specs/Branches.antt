-- Patterns whose variables hang on one another as a tree. What hangs at a variable depends on the element of that variable alone, so
-- each branch is asked for by itself, and what the branches cost adds up.
use Rattle.std.specs.Prelude.{ℕ, ◌+◌, Bool, true, false, ◌&&◌, ◌||◌, ◌==◌, not, cond, List, [], ◌∷◌, length, filter_map, Some, option_and_then}
use Rattle.std.specs.Option.{option_map_or}
use Rattle.std.specs.List.{list_any, list_all, sum_by}
use Rattle.pgs_base.specs.declared.element.Elem.{Elem}
use Rattle.pgs_base.specs.Graph.{Graph}
use Rattle.pgs_syntax.specs.declared.pattern.Atom.{Atom}
use Rattle.pgs_syntax.specs.declared.pattern.Atom.TheVariants.{Ends}
use Rattle.pgs_syntax.specs.declared.pattern.Pattern.{Pattern}
use Rattle.pgs_syntax.specs.declared.resolved.Resolved.{Resolved}
use Rattle.pgs_graph.specs.Reads.{degree_of}
use Rattle.pgs_match.specs.declared.step.Step.{Step}
use Rattle.pgs_match.specs.declared.step.Step.TheVariants.{Along, End}
use Rattle.pgs_match.specs.declared.bindings.Bound.{Bound}
use Rattle.pgs_match.specs.declared.bindings.Bound.TheVariants as bounds
use Rattle.pgs_match.specs.Bounds.{end_at}
use Rattle.pgs_match.specs.Plans.{bound_by}
use Rattle.pgs_match.specs.Search.{edges_along}
use Rattle.pgs_match.specs.Tests.{admitted_node, admitted_edge, admitted}

-- whether a step goes from a variable: what the step binds hangs on it
abbrev pub goes_from : ℕ → Step → Bool
goes_from var (Along edge node forward) = node == var
goes_from var (End edge node source) = edge == var

-- whether a step is between an edge variable and the node variable at its source, or at its target
abbrev pub is_between : ℕ → ℕ → Bool → Step → Bool
is_between edge node source (Along of end forward) = of == edge && end == node && cond source forward (not forward)
is_between edge node source (End of end first) = of == edge && end == node && cond source first (not first)

-- whether there is a step between an edge and each of its ends
abbrev pub has_steps : List Step → Atom → Bool
has_steps plan (Ends edge source target) = list_any (is_between edge source true) plan && list_any (is_between edge target false) plan
has_steps plan _ = true

-- whether a plan has a step for each end of each edge place: since each step binds a further variable, no cycle is closed
abbrev pub is_tree : List Atom → List Step → Bool
is_tree atoms plan = list_all (has_steps plan) atoms

-- the ends of edge places, as the steps from them, each once
abbrev pub with_join : ℕ → ℕ → Bool → List Step → List Step
with_join edge node source ends = cond (list_any (is_between edge node source) ends) ends (Along edge node source ∷ ends)

abbrev pub joins : List Atom → List Step
joins [] = []
joins (Ends edge source target ∷ atoms) = with_join edge source true (with_join edge target false (joins atoms))
joins (_ ∷ atoms) = joins atoms

-- Whether a valid pattern has no cycle. Its variables hang together, so that there is none where the ends of its edge places, each
-- counted once, are one fewer than the variables. An edge place from a node to itself counts as a cycle.
abbrev pub has_no_cycle : Pattern → Bool
has_no_cycle pattern = length (joins pattern.atoms) + 1 == length pattern.edge_vars

-- how many edges a bound node has; none where an edge is bound
abbrev pub degree_at : Graph → Bound → ℕ
degree_at g (bounds.Node id) = degree_of g id
degree_at g (bounds.Edge id source target) = 0

module _ (resolved : Resolved) (g : Graph) (atoms : List Atom) where
  -- to what a step may bind its variable, from what the variable is bound to from which it goes
  abbrev pub next_bounds : Step → Bound → List Bound
  next_bounds (Along edge node forward) bound = filter_map (admitted_edge resolved g atoms edge) (edges_along g forward (Some bound))
  next_bounds (End edge node source) bound =
      option_map_or (λ next. next ∷ []) (option_and_then (admitted_node resolved g atoms node) (end_at source (Some bound))) []

  -- Whether all that hangs on a variable can be given an element, where the variable is bound so: each step from it comes to one on
  -- which all can be given that hangs there.
  abbrev pub can_be_given : List Step → ℕ → Bound → Bool
  can_be_given [] var bound = true
  can_be_given (step ∷ plan) var bound =
      (not (goes_from var step) || list_any (can_be_given plan (bound_by step)) (next_bounds step bound)) && can_be_given plan var bound

  -- the degrees plus 2 of all that walks along the steps come to from a bound variable, the start included, each counted once a walk
  abbrev pub walked : List Step → ℕ → Bound → ℕ
  walked [] var bound = degree_at g bound + 2
  walked (step ∷ plan) var bound =
      cond (goes_from var step) (sum_by (walked plan (bound_by step)) (next_bounds step bound)) 0 + walked plan var bound

  -- how many look-ups a step takes at most, where what hangs on its variable takes so many
  abbrev pub step_most : (Bound → ℕ) → Step → Bound → ℕ
  step_most more (Along edge node forward) bound =
      length (edges_along g forward (Some bound)) + 1
      + sum_by (λ id. 3 + option_map_or more (admitted_edge resolved g atoms edge id) 0) (edges_along g forward (Some bound))
  step_most more (End edge node source) bound =
      1 + option_map_or more (option_and_then (admitted_node resolved g atoms node) (end_at source (Some bound))) 0

  -- how many look-ups it takes at most to ask whether all that hangs on a variable can be given
  abbrev pub asked_most : List Step → ℕ → Bound → ℕ
  asked_most [] var bound = 0
  asked_most (step ∷ plan) var bound =
      cond (goes_from var step) (step_most (asked_most plan (bound_by step)) step bound) 0 + asked_most plan var bound

-- the same sum of degrees from an element at a variable; 1 where the element isn't admitted there
abbrev pub walked_from : Resolved → Graph → Pattern → List Step → ℕ → Elem → ℕ
walked_from resolved g pattern plan var elem =
    option_map_or (walked resolved g pattern.atoms plan var) (admitted resolved g pattern var elem) 1
