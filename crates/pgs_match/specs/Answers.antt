-- What was noted of nodes at variables.
use Rattle.std.specs.Prelude.{ℕ, ◌+◌, ◌*◌, ◌≡◌, ◌≤◌, Bool, true, false, ◌==◌, cond, List, [], ◌∷◌, length, Option, Some, is_some}
use Rattle.std.specs.declared.cmp.Ordering.{Ordering}
use Rattle.std.specs.Option.{option_map_or}
use Rattle.std.specs.Ordering.{nat_cmp, ordering_then, is_eq}
use Rattle.std.specs.BTreeMap as tree
use Rattle.std.specs.List.{Contains, list_any, sum_by}
use Rattle.pgs_base.specs.declared.element.NodeId.{NodeId}
use Rattle.pgs_base.specs.declared.element.EdgeId.{EdgeId}
use Rattle.pgs_base.specs.declared.element.Elem.{Elem}
use Rattle.pgs_base.specs.declared.element.Elem.TheVariants.{Node, Edge}
use Rattle.pgs_base.specs.Graph.{Graph}
use Rattle.pgs_syntax.specs.declared.pattern.Atom.{Atom}
use Rattle.pgs_syntax.specs.declared.resolved.Resolved.{Resolved}
use Rattle.pgs_match.specs.declared.answers.Answers.{Answers}
use Rattle.pgs_match.specs.declared.step.Step.{Step}
use Rattle.pgs_match.specs.declared.step.Step.TheVariants.{Along, End}
use Rattle.pgs_match.specs.declared.stand.Stand.{Stand}
use Rattle.pgs_match.specs.declared.bindings.Bound.{Bound}
use Rattle.pgs_match.specs.Bounds.{elem_of, end_at}
use Rattle.pgs_match.specs.Branches.{degree_at, can_be_given}
use Rattle.pgs_match.specs.Plans.{bound_by}
use Rattle.pgs_match.specs.Spread.{stand_at, end_in, edges_in, elem_degree}
use Rattle.pgs_match.specs.Tests.{admitted_node, admitted_edge}

-- the order of pairs of a variable and a node's number
abbrev pub place_cmp : ℕ × ℕ → ℕ × ℕ → Ordering
place_cmp a b = ordering_then (nat_cmp a.0 b.0) (nat_cmp a.1 b.1)

-- what was noted of a node at a variable, if anything was
abbrev pub noted : Answers → ℕ → NodeId → Option Bool
noted answers var id = tree.get place_cmp answers.by_place (var, id.0)

abbrev pub is_same_place : ℕ → NodeId → ℕ → NodeId → Bool
is_same_place var id of other = is_eq (place_cmp (var, id.0) (of, other.0))

-- the steps of a plan behind the first one that binds a variable
abbrev pub behind : ℕ → List Step → List Step
behind var [] = []
behind var (step ∷ plan) = cond (bound_by step == var) plan (behind var plan)

-- whether some step binds a variable
abbrev pub is_bound_in : List Step → ℕ → Bool
is_bound_in plan var = list_any (λ step. bound_by step == var) plan

-- A plan ends in these steps: behind the variable that each binds are in the plan those after it, and none of these binds it again.
abbrev pub EndsIn : List Step → List Step → Type 0
EndsIn whole [] = Unit {0}
EndsIn whole (step ∷ rest) = (behind (bound_by step) whole ≡ rest) × (is_bound_in rest (bound_by step) ≡ false) × EndsIn whole rest

-- nothing of a variable that none of the steps binds was noted or lost
abbrev pub KeepsOthers : List Step → Answers → Answers → Type 0
KeepsOthers plan before after = (var : ℕ) (id : NodeId) → is_bound_in plan var ≡ false → noted after var id ≡ noted before var id

module _ (resolved : Resolved) (g : Graph) (atoms : List Atom) where
  -- whether a node is admitted at a variable and all that hangs there by the steps can be given it
  abbrev pub is_given : List Step → ℕ → NodeId → Bool
  is_given plan var id = option_map_or (can_be_given resolved g atoms plan var) (admitted_node resolved g atoms var id) false

  -- each answer that was noted is right
  abbrev pub AreRight : List Step → Answers → Type 0
  AreRight whole answers = (var : ℕ) (id : NodeId) (answer : Bool) → noted answers var id ≡ Some answer → answer ≡ is_given (behind var whole) var id

  -- with each pair of a list all is in it that a step comes to from it
  abbrev pub HasAhead : List Stand → Step → Type 0
  HasAhead pairs (Along edge node forward) = (elem : Elem) (id : EdgeId) → Contains pairs (stand_at node elem) → Contains (edges_in g forward elem) id →
      is_some (admitted_edge resolved g atoms edge id) ≡ true → Contains pairs (stand_at edge (Edge id))
  HasAhead pairs (End edge node source) = (elem : Elem) (id : NodeId) → Contains pairs (stand_at edge elem) → end_in g source elem ≡ Some id →
      is_some (admitted_node resolved g atoms node id) ≡ true → Contains pairs (stand_at node (Node id))

  -- and so for each step of a plan
  abbrev pub IsClosed : List Stand → List Step → Type 0
  IsClosed pairs [] = Unit {0}
  IsClosed pairs (step ∷ plan) = HasAhead pairs step × IsClosed pairs plan

-- whether anything was noted of a pair
abbrev pub is_noted : Answers → ℕ → Elem → Bool
is_noted answers var (Node id) = is_some (noted answers var id)
is_noted answers var (Edge id) = false

-- the degrees plus 2 of the pairs of which nothing was noted
abbrev pub unnoted : Graph → Answers → List Stand → ℕ
unnoted g answers pairs = sum_by (λ (stand : Stand). cond (is_noted answers stand.var stand.elem) 0 (elem_degree g stand.elem + 2)) pairs

-- Each look-up is paid for: by what is given, or, where each answer was noted that was found, by pairs of which something is noted now.
abbrev pub IsPaid : Graph → ℕ → List Stand → Answers → Answers → ℕ → ℕ → ℕ → Type 0
IsPaid g price pairs before after start now own = after.is_full ≡ false → now + price * unnoted g after pairs ≤ start + price * unnoted g before pairs + own

-- how many look-ups are taken at most along the steps of a plan from what a variable is bound to, without those at nodes that are come to
abbrev pub own_most : Graph → List Step → Bound → ℕ
own_most g plan bound = length plan * (1 + (length plan + 4) * degree_at g bound)

-- the price of a pair by which what is taken from its node is paid
abbrev pub IsPrice : List Step → ℕ → Type 0
IsPrice plan price = length plan * (length plan + 4) ≤ price

-- a variable is bound to an element of the graph, and the pair is in a list
abbrev pub IsAmong : Graph → List Stand → ℕ → Bound → Type 0
IsAmong g pairs var bound = Contains pairs (stand_at var (elem_of bound)) × ((source : Bool) → end_in g source (elem_of bound) ≡ end_at source (Some bound))
