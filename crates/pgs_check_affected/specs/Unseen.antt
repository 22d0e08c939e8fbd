-- When a key can't see what becomes of an element between two graphs: all that the key asks there has one answer in both.
use Rattle.std.specs.Prelude.{◌≡◌, ◌<◌, ℕ, zero, suc, Bool, true, false, ◌&&◌, ◌||◌, ◌==◌, not, List, filter, length, Option, Some, None, Contains, option_and_then, option_map}
use Rattle.std.specs.Option.{option_map_or}
use Rattle.std.specs.List.{list_any, list_all}
use Rattle.pgs_base.specs.declared.element.NodeId.{NodeId}
use Rattle.pgs_base.specs.declared.element.EdgeId.{EdgeId}
use Rattle.pgs_base.specs.declared.element.Elem.{Elem}
use Rattle.pgs_base.specs.declared.element.Elem.TheVariants.{Node, Edge}
use Rattle.pgs_base.specs.declared.row.NodeRow.{NodeRow}
use Rattle.pgs_base.specs.declared.row.EdgeRow.{EdgeRow}
use Rattle.pgs_base.specs.declared.value.Value.{Value}
use Rattle.pgs_base.specs.Graph.{Graph, edge_at}
use Rattle.pgs_base.specs.Pair.{value_at}
use Rattle.pgs_conform.specs.Kinds.{looks_same}
use Rattle.pgs_match.specs.Near.{is_at_element}
use Rattle.pgs_match.specs.Tests.{own_passes}
use Rattle.pgs_syntax.specs.declared.key.Key.{Key}
use Rattle.pgs_syntax.specs.declared.pattern.Atom.{Atom}
use Rattle.pgs_syntax.specs.declared.pattern.Atom.TheVariants.{FitsEdge}
use Rattle.pgs_syntax.specs.declared.pattern.Expr.{Expr}
use Rattle.pgs_syntax.specs.declared.pattern.Expr.TheVariants.{Element, Property}
use Rattle.pgs_syntax.specs.declared.pattern.Pattern.{Pattern}
use Rattle.pgs_syntax.specs.declared.resolved.Resolved.{Resolved}
use Rattle.pgs_syntax.specs.Matches.{same_value, carried, is_edge_of_type}
use Rattle.pgs_check_affected.specs.declared.known.Known.{Known}
use Rattle.pgs_check_affected.specs.Changes.{known_in}
use Rattle.pgs_check_affected.specs.Found.{passes}
use Rattle.pgs_check_affected.specs.Local.{has_touched_end}

-- ---- what a key asks of two graphs

-- the ends that an edge has, where it is there
abbrev pub ends_in : Graph → Elem → Option (NodeId × NodeId)
ends_in g (Node id) = None
ends_in g (Edge id) = option_map (λ (row : EdgeRow). (row.source, row.target)) (edge_at g id)

-- the value of an element's property, where it is present
abbrev pub property_in : Graph → List ℕ → Elem → Option Value
property_in g name elem = option_and_then (λ (own : NodeRow). value_at name own.props) (carried g elem)

-- whether an atom names the edge type of a number, and whether a pattern does
abbrev pub names_edge_type : ℕ → Atom → Bool
names_edge_type number (FitsEdge var other) = other == number
names_edge_type number _ = false

abbrev pub asks_edge_type : ℕ → Pattern → Bool
asks_edge_type number pattern = list_any (names_edge_type number) pattern.atoms

-- whether an edge is an element, or is at it
abbrev pub is_edge_of : Graph → Elem → EdgeId → Bool
is_edge_of g (Node id) edge = is_at_element g (Edge edge) id
is_edge_of g (Edge id) edge = id.0 == edge.0

module _ (resolved : Resolved) (g h : Graph) where
  -- an element passes what a pattern asks of a variable in both graphs or in neither
  abbrev pub PassesAlike : Pattern → Elem → Type 0
  PassesAlike pattern elem = (var : ℕ) → var < length pattern.edge_vars → passes resolved g pattern var elem ≡ passes resolved h pattern var elem

  -- an edge fits each edge type that a pattern names in both graphs, by its old ends and by its new ones, or in neither
  abbrev pub FitsAlike : Pattern → Elem → Type 0
  FitsAlike pattern edge =
      (number : ℕ) → asks_edge_type number pattern ≡ true → is_edge_of_type resolved g number edge ≡ is_edge_of_type resolved h number edge

  -- What a key asks of an element by itself has one answer in both graphs: the ends of an edge; which variables it passes; and each
  -- property that an expression takes, where it passes the expression's variable.
  pub record IsAskedAlike (key : Key) (elem : Elem) : Type 0 where
    pub ends : ends_in g elem ≡ ends_in h elem
    pub scope : PassesAlike key.scope elem
    pub descriptor : PassesAlike key.descriptor elem
    pub values : (var : ℕ) (name : List ℕ) → Contains key.exprs (Property var name) →
        (passes resolved g key.descriptor var elem || passes resolved h key.descriptor var elem) ≡ true →
        property_in g name elem ≡ property_in h name elem

  -- An element is unseen by a key: it is asked alike, and so is the type of each edge that is it, or is at it in either graph.
  pub record IsUnseen (key : Key) (elem : Elem) : Type 0 where
    pub itself : IsAskedAlike key elem
    pub edges : (edge : EdgeId) → (is_edge_of g elem edge || is_edge_of h elem edge) ≡ true →
        FitsAlike key.scope (Edge edge) × FitsAlike key.descriptor (Edge edge)

  -- Two graphs agree for a key but for seen elements: each other element is asked alike, and so is the type of each other edge that
  -- has no seen end.
  pub record AgreeForKey (seen : Elem → Bool) (key : Key) : Type 0 where
    pub elems : (elem : Elem) → seen elem ≡ false → IsAskedAlike key elem
    pub edges : (edge : EdgeId) → seen (Edge edge) ≡ false → has_touched_end seen g (Edge edge) ≡ false →
        FitsAlike key.scope (Edge edge) × FitsAlike key.descriptor (Edge edge)

-- ---- what tells it of an element of a change by its own rows

-- whether a row, where there is one, passes what a pattern asks of a variable
abbrev pub row_passes : Resolved → Pattern → ℕ → Elem → Option NodeRow → Bool
row_passes resolved pattern var elem own = option_map_or (own_passes resolved pattern var elem) own false

-- whether two tests have one outcome
abbrev pub is_one_outcome : Bool → Bool → Bool
is_one_outcome true other = other
is_one_outcome false other = not other

-- whether both rows pass the same of the first variables of a pattern
abbrev pub passes_alike : Resolved → Pattern → ℕ → Known → Bool
passes_alike resolved pattern zero known = true
passes_alike resolved pattern (suc vars) known =
    passes_alike resolved pattern vars known
    && is_one_outcome (row_passes resolved pattern vars known.elem known.before) (row_passes resolved pattern vars known.elem known.after)

-- whether a property is one in both rows, or absent from both
abbrev pub is_one_value : Option Value → Option Value → Bool
is_one_value None None = true
is_one_value (Some value) (Some other) = same_value value other
is_one_value _ _ = false

abbrev pub value_of : List ℕ → Option NodeRow → Option Value
value_of name own = option_and_then (λ (row : NodeRow). value_at name row.props) own

-- whether both rows give an expression the same, or neither passes its variable
abbrev pub gives_alike : Resolved → Pattern → Known → Expr → Bool
gives_alike resolved pattern known (Element var) = true
gives_alike resolved pattern known (Property var name) =
    not (row_passes resolved pattern var known.elem known.before || row_passes resolved pattern var known.elem known.after)
    || is_one_value (value_of name known.before) (value_of name known.after)

-- whether an atom asks an edge type, and whether a key does
abbrev pub asks_some_type : Atom → Bool
asks_some_type (FitsEdge var number) = true
asks_some_type _ = false

abbrev pub key_asks_edge_types : Key → Bool
key_asks_edge_types key = list_any asks_some_type key.scope.atoms || list_any asks_some_type key.descriptor.atoms

-- whether both rows look the same to types, or are absent
abbrev pub look_same : Option NodeRow → Option NodeRow → Bool
look_same None None = true
look_same (Some row) (Some other) = looks_same row other
look_same _ _ = false

-- Whether the rows of an element tell that a key can't see it change: it keeps its ends, passes the same variables and gives the same
-- values, and looks the same to types where the key asks edge types.
abbrev pub is_left_unseen : Resolved → Key → Known → Bool
is_left_unseen resolved key known =
    known.keeps_ends && passes_alike resolved key.scope (length key.scope.edge_vars) known
    && passes_alike resolved key.descriptor (length key.descriptor.edge_vars) known
    && list_all (gives_alike resolved key.descriptor known) key.exprs
    && (not (key_asks_edge_types key) || look_same known.before known.after)

-- the elements of a change of which they don't
abbrev pub seen_elems : Resolved → Graph → Graph → Key → List Elem → List Elem
seen_elems resolved g h key elems = filter (λ elem. not (is_left_unseen resolved key (known_in g h elem))) elems
