-- Searches along a way to one variable of a tree: at each variable on the way the nodes that are come to are put in order, each once, before
-- one goes on from them.
use Rattle.std.specs.Prelude.{◌≡◌, ◌≤◌, ℕ, ◌+◌, ◌*◌, Bool, true, false, ◌&&◌, ◌||◌, ◌==◌, not, cond, List, [], ◌∷◌, map, filter, Option, Some}
use Rattle.std.specs.List.{Contains, list_all, flat_map, sum_by}
use Rattle.std.specs.BTreeMap as tree
use Rattle.pgs_base.specs.declared.element.NodeId.{NodeId}
use Rattle.pgs_base.specs.declared.element.Elem.TheVariants.{Node}
use Rattle.pgs_base.specs.Graph.{Graph}
use Rattle.pgs_syntax.specs.declared.pattern.Atom.{Atom}
use Rattle.pgs_syntax.specs.declared.pattern.Expr.{Expr}
use Rattle.pgs_syntax.specs.declared.resolved.Resolved.{Resolved}
use Rattle.pgs_syntax.specs.Valid.{read_var}
use Rattle.pgs_match.specs.declared.step.Step.{Step}
use Rattle.pgs_match.specs.declared.step.Step.TheVariants.{Along, End}
use Rattle.pgs_match.specs.declared.stand.Stand.{Stand}
use Rattle.pgs_match.specs.declared.bindings.Bound.{Bound}
use Rattle.pgs_match.specs.declared.bindings.Bound.TheVariants as bounds
use Rattle.pgs_match.specs.declared.notes.Notes.{Notes}
use Rattle.pgs_match.specs.declared.notes.Hop.{Hop}
use Rattle.pgs_match.specs.declared.notes.Link.{Link}
use Rattle.pgs_match.specs.declared.notes.Links.{Links}
use Rattle.pgs_match.specs.Answers.{place_cmp, noted, is_given, AreRight, is_bound_in, IsClosed, unnoted}
use Rattle.pgs_match.specs.Branches.{goes_from, next_bounds, can_be_given, step_most, asked_most}
use Rattle.pgs_match.specs.Plans.{bound_by}
use Rattle.pgs_match.specs.Spread.{stand_at, elem_degree}

module _ (resolved : Resolved) (g : Graph) (atoms : List Atom) (off : List Step) where
  -- to what a step comes from what its variable is bound to, where all can be given that hangs on it off the way
  abbrev pub kept_bounds : Step → Bound → List Bound
  kept_bounds step bound = filter (can_be_given resolved g atoms off (bound_by step)) (next_bounds resolved g atoms step bound)

  -- and to what the steps of a way lead, one after the other
  abbrev pub led_on : List Step → Bound → List Bound
  led_on [] bound = bound ∷ []
  led_on (step ∷ ways) bound = flat_map (led_on ways) (kept_bounds step bound)

  -- how many look-ups it takes at most to come to all of these, each once a walk, where each takes so many more
  abbrev pub on_most : ℕ → List Step → Bound → ℕ
  on_most last [] bound = last
  on_most last (step ∷ ways) bound =
      step_most resolved g atoms (λ next. asked_most resolved g atoms off (bound_by step) next + on_most last ways next) step bound

-- from a node over an edge to the node at its other end
abbrev pub hop_steps : Hop → List Step
hop_steps hop = Along hop.edge 0 hop.forward ∷ End hop.edge hop.node hop.source ∷ []

abbrev pub hop_bounds : Resolved → Graph → List Atom → List Step → Hop → NodeId → List Bound
hop_bounds resolved g atoms off hop from = led_on resolved g atoms off (hop_steps hop) (bounds.Node from)

-- the nodes as bounds
abbrev pub at_nodes : List NodeId → List Bound
at_nodes ids = map bounds.Node ids

-- Bounds that were found are others, with no more repeats: each is among them, they have no other, and whatever is counted of each, the sum is no
-- greater.
abbrev pub AreAllOf : List Bound → List Bound → Type 0
AreAllOf others found =
    ((bound : Bound) → Contains others bound → Contains found bound) × ((bound : Bound) → Contains found bound → Contains others bound)
    × ((count : Bound → ℕ) → sum_by count found ≤ sum_by count others)

-- the link that was noted of a node at an edge variable, if one was
abbrev pub linked : Links → ℕ → NodeId → Option Link
linked links var from = tree.get place_cmp links.by_place (var, from.0)

-- All that was noted is right: of nodes on the way whether they are admitted and can be given all that hangs there off the way, the same of nodes
-- off the way, and the nodes behind nodes.
abbrev pub AreNoted : Resolved → Graph → List Atom → List Step → Notes → Type 0
AreNoted resolved g atoms off notes =
    ((var : ℕ) (id : NodeId) (answer : Bool) → noted notes.on var id ≡ Some answer → answer ≡ is_given resolved g atoms off var id)
    × AreRight resolved g atoms off notes.off
    × ((var : ℕ) (from : NodeId) (link : Link) → linked notes.links var from ≡ Some link →
    AreAllOf (hop_bounds resolved g atoms off link.hop from) (at_nodes link.ids))

-- whether each step goes from what the one before it binds, and the first from a variable
abbrev pub is_path : ℕ → List Step → Bool
is_path var [] = true
is_path var (step ∷ ways) = goes_from var step && is_path (bound_by step) ways

-- the variable at the end
abbrev pub end_var : ℕ → List Step → ℕ
end_var var [] = var
end_var var (step ∷ ways) = end_var (bound_by step) ways

-- Whether a way leads from a variable, which it doesn't come to again, to one other, and expressions take none but these two.
abbrev pub leads_to_one : ℕ → List Step → List Expr → Bool
leads_to_one var ways exprs =
    is_path var ways && not (is_bound_in ways var) && list_all (λ (expr : Expr). read_var expr == var || read_var expr == end_var var ways) exprs

-- what of some pairs was noted neither on the way nor off it
abbrev pub unasked : Graph → Notes → List Stand → ℕ
unasked g notes pairs = unnoted g notes.on pairs + unnoted g notes.off pairs

-- Each look-up is paid for: by what is given, or, where each answer was noted that was found, by pairs of which something is noted now.
abbrev pub IsPaidOn : Graph → List Stand → Notes → Notes → ℕ → ℕ → ℕ → Type 0
IsPaidOn g pairs before after start now own = after.on.is_full ≡ false → after.off.is_full ≡ false →
    now + 440 * unasked g after pairs ≤ start + 440 * unasked g before pairs + own

-- where some answer wasn't noted for want of memory before, so it is after
abbrev pub StayFull : Notes → Notes → Type 0
StayFull before after = (before.on.is_full ≡ true → after.on.is_full ≡ true) × (before.off.is_full ≡ true → after.off.is_full ≡ true)

-- Nodes stand in a list once each: whatever is counted of each at a variable, the sum is no greater than over any list of pairs that has all of them
-- there.
abbrev pub AreApart : List NodeId → Type 0
AreApart ids = (var : ℕ) (pairs : List Stand) (count : Stand → ℕ) → ((id : NodeId) → Contains ids id → Contains pairs (stand_at var (Node id))) →
    sum_by (λ id. count (stand_at var (Node id))) ids ≤ sum_by (λ (stand : Stand). cond (stand.var == var) (count stand) 0) pairs

-- how many look-ups it takes at most to go over the edges of a node, where so many steps are off the way
abbrev pub hop_most : Graph → ℕ → Stand → ℕ
hop_most g count stand = 1 + (count + 5) * elem_degree g stand.elem

-- the same of all pairs from which a way goes along edges
abbrev pub hops_most : Graph → ℕ → List Step → List Stand → ℕ
hops_most g count [] pairs = 0
hops_most g count (Along edge node forward ∷ ways) pairs =
    sum_by (λ (stand : Stand). cond (stand.var == node) (hop_most g count stand) 0) pairs + hops_most g count ways pairs
hops_most g count (End edge node source ∷ ways) pairs = hops_most g count ways pairs

-- A list of pairs has nodes at a variable, and all to which the steps of a way and those off it come from its pairs.
abbrev pub HasWay : Resolved → Graph → List Atom → List Step → List Step → ℕ → List NodeId → List Stand → Type 0
HasWay resolved g atoms off ways var here pairs =
    ((id : NodeId) → Contains here id → Contains pairs (stand_at var (Node id)))
    × IsClosed resolved g atoms pairs ways × IsClosed resolved g atoms pairs off
