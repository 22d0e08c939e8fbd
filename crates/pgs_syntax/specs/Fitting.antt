-- Which pairs fit a specification, and which triples of pairs an edge type.
use Rattle.std.specs.Prelude.{ℕ, Bool, false, ◌&&◌, ◌||◌, List, length}
use Rattle.std.specs.List.{list_any, list_all}
use Rattle.std.specs.Option.{option_map_or}
use Rattle.pgs_base.specs.declared.row.NodeRow.{NodeRow}
use Rattle.pgs_base.specs.declared.value.Value.{Value}
use Rattle.pgs_base.specs.Pair.{same_name, has_name, value_at}
use Rattle.pgs_base.specs.Value.{is_of_kind}
use Rattle.pgs_syntax.specs.declared.element_type.NodeType.{NodeType}
use Rattle.pgs_syntax.specs.declared.element_type.EdgeType.{EdgeType}
use Rattle.pgs_syntax.specs.declared.resolved.Resolved.{Resolved}
use Rattle.pgs_syntax.specs.declared.specification.Braces.{Braces}
use Rattle.pgs_syntax.specs.declared.specification.Leaf.{Leaf}
use Rattle.pgs_syntax.specs.declared.specification.Leaf.TheVariants.{Label, Named}
use Rattle.pgs_syntax.specs.declared.specification.Property.{Property}
use Rattle.pgs_syntax.specs.declared.specification.Spec as specs
use Rattle.pgs_syntax.specs.declared.specification.Spec.{Spec, Empty, Word, OpenLabels, And', Or', Opt', Row_of-Spec, end_of-Spec, more_of-Spec}
use Rattle.pgs_syntax.specs.Join.{Joins, of_pairs, of_triples, joined, PairTriple, is_empty, is_empty_pair}
use Rattle.pgs_syntax.specs.Numbered.{passes_below}

-- whether a pair has exactly this label, and no properties
abbrev pub is_only : List ℕ → NodeRow → Bool
is_only label p = has_name label p.labels && list_all (same_name label) p.labels && is_empty p.props

-- whether a property is present with a value of its kind, or optional and absent
abbrev pub is_met : List (List ℕ × Value) → Property → Bool
is_met props property = option_map_or (is_of_kind property.kind) (value_at property.key props) property.optional

-- whether braces name a key
abbrev pub is_named_by : List Property → List ℕ → Bool
is_named_by properties key = list_any (λ (property : Property). same_name key property.key) properties

-- whether a pair is as braces say: no labels, each property met, and no key that isn't named unless more are allowed
abbrev pub is_braced : Braces → NodeRow → Bool
is_braced braces p =
    is_empty p.labels && list_all (is_met p.props) braces.properties
    && list_all (λ (entry : List ℕ × Value). braces.more || is_named_by braces.properties entry.0) p.props

-- Whether a pair or a triple fits a specification. What a named type's number asks is given.
module _ {P : Type 0} (joins : Joins P) (named : ℕ → P → Bool) where
  abbrev mutual
    pub suits : Spec Leaf → P → Bool
    suits Empty p = joins.asks is_empty_pair p
    suits (Word (Label label)) p = joins.asks (is_only label) p
    suits (Word (Named number)) p = named number p
    suits OpenLabels p = joins.asks (λ own. is_empty own.props) p
    suits (specs.Braces braces) p = joins.asks (is_braced braces) p
    suits (And' _ parts) p = suits_each parts p
    suits (Or' _ parts) p = suits_some parts p
    suits (Opt' _ part) p = joins.asks is_empty_pair p || suits_some part p

    -- whether it is the join of some, one for each part and fitting it
    pub suits_each : {n : _} → Row_of-Spec Leaf n → P → Bool
    suits_each end_of-Spec p = joins.asks is_empty_pair p
    suits_each (more_of-Spec part parts) p = joined joins (suits part) (suits_each parts) p

    -- whether it fits some part
    pub suits_some : {n : _} → Row_of-Spec Leaf n → P → Bool
    suits_some end_of-Spec p = false
    suits_some (more_of-Spec part parts) p = suits part p || suits_some parts p

-- whether a pair fits a node type, where it is known which pairs fit the types of its numbers
abbrev pub fits_node_type : (ℕ → NodeRow → Bool) → NodeType Leaf → NodeRow → Bool
fits_node_type named type p = suits of_pairs named type.spec p

-- whether a pair fits the node type of a number below a bound
abbrev pub fits_below : List (NodeType Leaf) → ℕ → ℕ → NodeRow → Bool
fits_below types = passes_below fits_node_type types

-- whether a pair fits the node type of a number
abbrev pub fits_node : Resolved → ℕ → NodeRow → Bool
fits_node resolved number p = fits_below resolved.nodes (length resolved.nodes) number p

-- whether a pair fits a specification
abbrev pub fits : Resolved → Spec Leaf → NodeRow → Bool
fits resolved spec p = suits of_pairs (fits_node resolved) spec p

-- whether the pairs at the ends of a triple fit what an edge type says of its source and target, and its own pair is empty
abbrev pub has_ends_of : Resolved → EdgeType Leaf → PairTriple → Bool
has_ends_of resolved type t =
    fits resolved type.source t.source && is_empty_pair t.own && fits resolved type.target t.target

-- Whether a triple fits an edge type: it is the join of one that fits the middle with pairs at the ends that fit the source
-- and the target. What a number in the middle asks is given.
abbrev pub fits_edge_type : Resolved → (ℕ → PairTriple → Bool) → EdgeType Leaf → PairTriple → Bool
fits_edge_type resolved named type t =
    joined of_triples (has_ends_of resolved type) (suits of_triples named type.middle) t

-- whether a triple fits the edge type of a number below a bound
abbrev pub fits_edge_below : Resolved → ℕ → ℕ → PairTriple → Bool
fits_edge_below resolved = passes_below (fits_edge_type resolved) resolved.edges

-- whether a triple fits the edge type of a number
abbrev pub fits_edge : Resolved → ℕ → PairTriple → Bool
fits_edge resolved number t = fits_edge_below resolved (length resolved.edges) number t
