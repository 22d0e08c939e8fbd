-- What a key of a guard can speak of, over graphs all of whose elements can stand: whether its scope can have an element, and whether an
-- element of the scope can have a key value. Keys are left out of what can stand.
use Rattle.std.specs.Prelude.{◌≡◌, ℕ, Bool, true, false, ◌||◌, List, [], ◌∷◌, nat_le}
use Rattle.std.specs.Option.{option_map_or}
use Rattle.std.specs.List.{list_all}
use Rattle.pgs_base.specs.declared.element.EdgeId.{EdgeId}
use Rattle.pgs_base.specs.declared.element.Elem.{Elem}
use Rattle.pgs_base.specs.declared.element.NodeId.{NodeId}
use Rattle.pgs_base.specs.declared.row.EdgeRow.{EdgeRow}
use Rattle.pgs_base.specs.declared.row.NodeRow.{NodeRow}
use Rattle.pgs_base.specs.Graph.{Graph, is_graph}
use Rattle.pgs_syntax.specs.declared.key.Key.{Key}
use Rattle.pgs_syntax.specs.declared.key.Qualifiers.{Qualifiers}
use Rattle.pgs_syntax.specs.declared.resolved.Resolved.{Resolved}
use Rattle.pgs_syntax.specs.Join.{is_empty}
use Rattle.pgs_syntax.specs.KeyValues.{is_in_scope, key_values}
use Rattle.pgs_syntax.specs.Typed.{triple_at}
use Rattle.pgs_standing.specs.Standing.{can_stand_node, can_stand_edge}
use Rattle.pgs_key_standing.specs.declared.reached.Reach.{Reach}
use Rattle.pgs_key_standing.specs.declared.reached.Reach.TheVariants as reaches

-- whether each node of a graph can stand, and each edge
abbrev pub nodes_stand : Resolved → Graph → Bool
nodes_stand resolved g = list_all (λ (node : NodeId × NodeRow). can_stand_node resolved node.1) g.nodes

abbrev pub edges_stand : Resolved → Graph → Bool
edges_stand resolved g = list_all (λ (edge : EdgeId × EdgeRow). option_map_or (can_stand_edge resolved) (triple_at g edge.1) false) g.edges

-- a graph all of whose elements can stand
pub record IsStanding (resolved : Resolved) (g : Graph) : Type 0 where
  pub graph : is_graph g ≡ true
  pub nodes : nodes_stand resolved g ≡ true
  pub edges : edges_stand resolved g ≡ true

-- such a graph with an element in the scope of a key, and with one that has a key value
pub record HasScope (resolved : Resolved) (key : Key) : Type 0 where
  pub g : Graph
  pub elem : Elem
  pub standing : IsStanding resolved g
  pub scope : is_in_scope resolved g key elem ≡ true

pub record HasValue (resolved : Resolved) (key : Key) : Type 0 where
  pub g : Graph
  pub elem : Elem
  pub standing : IsStanding resolved g
  pub scope : is_in_scope resolved g key elem ≡ true
  pub value : is_empty (key_values resolved g key elem) ≡ false

-- no such graph has one
abbrev pub LacksScope : Resolved → Key → Type 0
LacksScope resolved key = (g : Graph) (elem : Elem) → IsStanding resolved g → is_in_scope resolved g key elem ≡ false

abbrev pub LacksValue : Resolved → Key → Type 0
LacksValue resolved key =
    (g : Graph) (elem : Elem) → IsStanding resolved g → is_in_scope resolved g key elem ≡ true → is_empty (key_values resolved g key elem) ≡ true

-- whether a key asks for a key value of each element of its scope: it is MANDATORY, or counts from 1 on
abbrev pub asks_values : Qualifiers → Bool
asks_values qualifiers = qualifiers.mandatory || option_map_or (λ (count : ℕ × ℕ). nat_le 1 count.0) qualifiers.count false

-- what a key reaches
abbrev pub IsReach : Resolved → Key → Reach → Type 0
IsReach resolved key reaches.NeverScope = LacksScope resolved key
IsReach resolved key reaches.NeverValue = HasScope resolved key × LacksValue resolved key × (asks_values key.qualifiers ≡ false)
IsReach resolved key reaches.Forbids = HasScope resolved key × LacksValue resolved key × (asks_values key.qualifiers ≡ true)
IsReach resolved key reaches.Value = HasValue resolved key

-- what keys reach, each in its turn
abbrev pub AreReached : Resolved → List Key → List Reach → Type 0
AreReached resolved [] [] = Unit {0}
AreReached resolved [] (reach ∷ all) = ⊥
AreReached resolved (key ∷ keys) [] = ⊥
AreReached resolved (key ∷ keys) (reach ∷ all) = IsReach resolved key reach × AreReached resolved keys all
