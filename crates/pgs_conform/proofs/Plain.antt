-- A pair fits what it fits with its values made plain: each put in place by one value of its kind.
use Rattle.std.proofs.Common.{◌≡◌, ℕ, zero, suc, Bool, true, false, ◌&&◌, ◌||◌, ◌==◌, cond, pos, List, [], ◌∷◌, map, length, slice_get, Option, Some, None, refl, sym, ◌∙◌, ap}
use Rattle.std.specs.Option.{option_map_or}
use Rattle.std.specs.List.{list_any, list_all}
use Rattle.pgs_base.specs.declared.row.NodeRow.{NodeRow}
use Rattle.pgs_base.specs.declared.value.Kind.{Kind}
use Rattle.pgs_base.specs.declared.value.Kind.TheVariants as kinds
use Rattle.pgs_base.specs.declared.value.Value.{Value}
use Rattle.pgs_base.specs.declared.value.Value.TheVariants as values
use Rattle.pgs_base.specs.Pair.{same_name, pair_of, value_at}
use Rattle.pgs_base.specs.Value.{kind_of, kind_rank, is_of_kind}
use Rattle.pgs_syntax.specs.declared.element_type.NodeType.{NodeType}
use Rattle.pgs_syntax.specs.declared.element_type.EdgeType.{EdgeType}
use Rattle.pgs_syntax.specs.declared.resolved.Resolved.{Resolved}
use Rattle.pgs_syntax.specs.declared.specification.Braces.{Braces}
use Rattle.pgs_syntax.specs.declared.specification.Leaf.{Leaf}
use Rattle.pgs_syntax.specs.declared.specification.Leaf.TheVariants.{Label, Named}
use Rattle.pgs_syntax.specs.declared.specification.Property.{Property}
use Rattle.pgs_syntax.specs.declared.specification.Spec as specs
use Rattle.pgs_syntax.specs.declared.specification.Spec.{Spec, Empty, Word, OpenLabels, And', Or', Opt', Row_of-Spec, end_of-Spec, more_of-Spec}
use Rattle.pgs_syntax.specs.Fitting.{is_only, is_met, is_named_by, is_braced, suits, suits_each, suits_some, fits_below, fits_node, fits, has_ends_of, fits_edge_type, fits_edge_below, fits_edge}
use Rattle.pgs_syntax.specs.Join.{is_empty, ways, splits, halves, PairTriple, is_empty_pair, triple_halves, Joins, of_pairs, of_triples, joined}
use Rattle.pgs_syntax.proofs.Edges.{any_triple_halves}
use Rattle.pgs_syntax.proofs.Halves.{any_same, any_flat_map, any_halves, joined_any}

-- ---- plain values

pub plain_of : Kind → Value
plain_of kinds.Text = values.Text []
plain_of kinds.Int = values.Int (pos 0)
plain_of kinds.Bool = values.Bool false
plain_of kinds.Date = values.Date (0, 0, 0)

same_kind : (kind : Kind) → kind_of (plain_of kind) ≡ kind
unfolding plain_of
same_kind kinds.Text = refl
same_kind kinds.Int = refl
same_kind kinds.Bool = refl
same_kind kinds.Date = refl

abbrev Entry : Type 0
Entry = List ℕ × Value

abbrev pub plain_entry : Entry → Entry
plain_entry entry = (entry.0, plain_of (kind_of entry.1))

abbrev pub plain : NodeRow → NodeRow
plain p = pair_of p.labels (map plain_entry p.props)

abbrev pub plain_triple : PairTriple → PairTriple
plain_triple t = record { source = plain t.source; own = plain t.own; target = plain t.target }

-- ---- what is asked of properties

empty_same : (props : List Entry) → is_empty (map plain_entry props) ≡ is_empty props
empty_same [] = refl
empty_same (entry ∷ props) = refl

met_same : (props : List Entry) (property : Property) → is_met (map plain_entry props) property ≡ is_met props property
met_same [] property = refl
met_same (entry ∷ props) property = by (same_name property.key entry.0) (met_same props property)
  where
    by : (b : Bool) → is_met (map plain_entry props) property ≡ is_met props property →
        option_map_or (is_of_kind property.kind) (cond b (Some (plain_of (kind_of entry.1))) (value_at property.key (map plain_entry props))) property.optional
        ≡ option_map_or (is_of_kind property.kind) (cond b (Some entry.1) (value_at property.key props)) property.optional
    by true rest = ap (λ kind. kind_rank kind == kind_rank property.kind) (same_kind (kind_of entry.1))
    by false rest = rest

all_met : (props : List Entry) (properties : List Property) → list_all (is_met (map plain_entry props)) properties ≡ list_all (is_met props) properties
all_met props [] = refl
all_met props (property ∷ rest) = λ i. met_same props property i && all_met props rest i

keys_same : (test : List ℕ → Bool) (props : List Entry) →
    list_all (λ (entry : Entry). test entry.0) (map plain_entry props) ≡ list_all (λ (entry : Entry). test entry.0) props
keys_same test [] = refl
keys_same test (entry ∷ props) = ap (λ b. test entry.0 && b) (keys_same test props)

empty_pair : (p : NodeRow) → is_empty_pair (plain p) ≡ is_empty_pair p
empty_pair p = ap (λ b. is_empty p.labels && b) (empty_same p.props)

only_same : (label : List ℕ) (p : NodeRow) → is_only label (plain p) ≡ is_only label p
only_same label p = ap (λ b. list_any (same_name label) p.labels && list_all (same_name label) p.labels && b) (empty_same p.props)

braced_same : (braces : Braces) (p : NodeRow) → is_braced braces (plain p) ≡ is_braced braces p
braced_same braces p =
    λ i. is_empty p.labels && all_met p.props braces.properties i && keys_same (λ key. braces.more || is_named_by braces.properties key) p.props i

-- ---- halves

splits_map : {X Y : Type 0} (f : X → Y) (c : List Y × List Y → Bool) (xs : List X) →
    list_any c (splits (map f xs)) ≡ list_any (λ (s : List X × List X). c (map f s.0, map f s.1)) (splits xs)
splits_map f c [] = refl
splits_map {X} {Y} f c (x ∷ xs) =
    any_flat_map c (ways (f x)) (splits (map f xs))
    ∙ splits_map f (λ (s : List Y × List Y). list_any c (ways (f x) s)) xs
    ∙ sym (any_flat_map (λ (s : List X × List X). c (map f s.0, map f s.1)) (ways x) (splits xs))

halves_same : (c : NodeRow × NodeRow → Bool) (p : NodeRow) →
    list_any c (halves (plain p)) ≡ list_any (λ (s : NodeRow × NodeRow). c (plain s.0, plain s.1)) (halves p)
halves_same c p =
    any_halves c (plain p)
    ∙ any_same _ _ (λ (l : List (List ℕ) × List (List ℕ)).
    splits_map plain_entry (λ (k : List Entry × List Entry). c (pair_of l.0 k.0, pair_of l.1 k.1)) p.props) (splits p.labels)
    ∙ sym (any_halves (λ (s : NodeRow × NodeRow). c (plain s.0, plain s.1)) p)

triples_same : (c : PairTriple × PairTriple → Bool) (t : PairTriple) →
    list_any c (triple_halves (plain_triple t)) ≡ list_any (λ (s : PairTriple × PairTriple). c (plain_triple s.0, plain_triple s.1)) (triple_halves t)
triples_same c t =
    any_triple_halves c (plain_triple t)
    ∙ halves_same _ t.source
    ∙ any_same _ _ (λ (s : NodeRow × NodeRow). halves_same _ t.own
    ∙ any_same _ _ (λ (m : NodeRow × NodeRow). halves_same _ t.target) (halves t.own)) (halves t.source)
    ∙ sym (any_triple_halves (λ (s : PairTriple × PairTriple). c (plain_triple s.0, plain_triple s.1)) t)

-- ---- specifications

-- what specifications speak of, made plain
record AreSame {P : Type 0} (joins : Joins P) (made : P → P) : Type 0 where
  parts : (c : P × P → Bool) (p : P) → list_any c (joins.halves_of (made p)) ≡ list_any (λ (s : P × P). c (made s.0, made s.1)) (joins.halves_of p)
  asked : (test : NodeRow → Bool) → ((q : NodeRow) → test (plain q) ≡ test q) → (p : P) → joins.asks test (made p) ≡ joins.asks test p

pairs_are : AreSame of_pairs plain
pairs_are = record { parts = halves_same; asked = λ test same p. same p }

triples_are : AreSame of_triples plain_triple
triples_are = record {
  parts = triples_same;
  asked = λ test same t i. empty_pair t.source i && same t.own i && empty_pair t.target i;
}

module _ {P : Type 0} (joins : Joins P) (made : P → P) (are : AreSame joins made) where
  joined_plain : (f g : P → Bool) → ((p : P) → f (made p) ≡ f p) → ((p : P) → g (made p) ≡ g p) → (p : P) → joined joins f g (made p) ≡ joined joins f g p
  joined_plain f g first second p =
      joined_any joins f g (made p)
      ∙ are.parts (λ (s : P × P). g s.1 && f s.0) p
      ∙ any_same _ (λ (s : P × P). g s.1 && f s.0) (λ (s : P × P) i. second s.1 i && first s.0 i) (joins.halves_of p)
      ∙ sym (joined_any joins f g p)

  module _ (named : ℕ → P → Bool) (same : (number : ℕ) (p : P) → named number (made p) ≡ named number p) where
    mutual
      suits_plain : (spec : Spec Leaf) (p : P) → suits joins named spec (made p) ≡ suits joins named spec p
      suits_plain Empty p = are.asked is_empty_pair empty_pair p
      suits_plain (Word (Label label)) p = are.asked (is_only label) (only_same label) p
      suits_plain (Word (Named number)) p = same number p
      suits_plain OpenLabels p = are.asked (λ own. is_empty own.props) (λ q. empty_same q.props) p
      suits_plain (specs.Braces braces) p = are.asked (is_braced braces) (braced_same braces) p
      suits_plain (And' _ parts) p = each_plain parts p
      suits_plain (Or' _ parts) p = some_plain parts p
      suits_plain (Opt' _ part) p = λ i. are.asked is_empty_pair empty_pair p i || some_plain part p i

      each_plain : {n : _} (parts : Row_of-Spec Leaf n) (p : P) → suits_each joins named parts (made p) ≡ suits_each joins named parts p
      each_plain end_of-Spec p = are.asked is_empty_pair empty_pair p
      each_plain (more_of-Spec part parts) p = joined_plain (suits joins named part) (suits_each joins named parts) (suits_plain part) (each_plain parts) p

      some_plain : {n : _} (parts : Row_of-Spec Leaf n) (p : P) → suits_some joins named parts (made p) ≡ suits_some joins named parts p
      some_plain end_of-Spec p = refl
      some_plain (more_of-Spec part parts) p = λ i. suits_plain part p i || some_plain parts p i

-- ---- types

of_type : {T : Type 0} (test other : T → Bool) → ((type : T) → test type ≡ other type) → (o : Option T) → option_map_or test o false ≡ option_map_or other o false
of_type test other same None = refl
of_type test other same (Some type) = same type

below_plain : (types : List (NodeType Leaf)) (bound number : ℕ) (p : NodeRow) → fits_below types bound number (plain p) ≡ fits_below types bound number p
below_plain types zero number p = refl
below_plain types (suc bound) number p = by (below_plain types bound) (number == bound)
  where
    by : ((other : ℕ) (q : NodeRow) → fits_below types bound other (plain q) ≡ fits_below types bound other q) → (b : Bool) →
        ◌≡◌ {A = Bool} (elim b [
          | true ↦ option_map_or (λ (type : NodeType Leaf). suits of_pairs (fits_below types bound) type.spec (plain p)) (slice_get types bound) false
          | false ↦ fits_below types bound number (plain p)
        ])
        (elim b [
          | true ↦ option_map_or (λ (type : NodeType Leaf). suits of_pairs (fits_below types bound) type.spec p) (slice_get types bound) false
          | false ↦ fits_below types bound number p
        ])
    by rest true =
        of_type (λ (type : NodeType Leaf). suits of_pairs (fits_below types bound) type.spec (plain p)) (λ (type : NodeType Leaf). suits of_pairs (fits_below types bound) type.spec p)
        (λ type. suits_plain of_pairs plain pairs_are (fits_below types bound) rest type.spec p) (slice_get types bound)
    by rest false = rest number p

module _ (resolved : Resolved) where
  pub node_plain : (number : ℕ) (p : NodeRow) → fits_node resolved number (plain p) ≡ fits_node resolved number p
  node_plain number p = below_plain resolved.nodes (length resolved.nodes) number p

  spec_plain : (spec : Spec Leaf) (p : NodeRow) → fits resolved spec (plain p) ≡ fits resolved spec p
  spec_plain spec p = suits_plain of_pairs plain pairs_are (fits_node resolved) node_plain spec p

  ends_plain : (type : EdgeType Leaf) (t : PairTriple) → has_ends_of resolved type (plain_triple t) ≡ has_ends_of resolved type t
  ends_plain type t = λ i. spec_plain type.source t.source i && empty_pair t.own i && spec_plain type.target t.target i

  type_plain : (named : ℕ → PairTriple → Bool) → ((number : ℕ) (t : PairTriple) → named number (plain_triple t) ≡ named number t) → (type : EdgeType Leaf) (t : PairTriple) →
      fits_edge_type resolved named type (plain_triple t) ≡ fits_edge_type resolved named type t
  type_plain named same type t =
      joined_plain of_triples plain_triple triples_are (has_ends_of resolved type) (suits of_triples named type.middle) (ends_plain type)
      (suits_plain of_triples plain_triple triples_are named same type.middle) t

  edge_below_plain : (bound number : ℕ) (t : PairTriple) → fits_edge_below resolved bound number (plain_triple t) ≡ fits_edge_below resolved bound number t
  edge_below_plain zero number t = refl
  edge_below_plain (suc bound) number t = by (edge_below_plain bound) (number == bound)
    where
      by : ((other : ℕ) (u : PairTriple) → fits_edge_below resolved bound other (plain_triple u) ≡ fits_edge_below resolved bound other u) → (b : Bool) →
          ◌≡◌ {A = Bool} (elim b [
            | true ↦ option_map_or (λ (type : EdgeType Leaf). fits_edge_type resolved (fits_edge_below resolved bound) type (plain_triple t)) (slice_get resolved.edges bound) false
            | false ↦ fits_edge_below resolved bound number (plain_triple t)
          ])
          (elim b [
            | true ↦ option_map_or (λ (type : EdgeType Leaf). fits_edge_type resolved (fits_edge_below resolved bound) type t) (slice_get resolved.edges bound) false
            | false ↦ fits_edge_below resolved bound number t
          ])
      by rest true =
          of_type (λ (type : EdgeType Leaf). fits_edge_type resolved (fits_edge_below resolved bound) type (plain_triple t))
          (λ (type : EdgeType Leaf). fits_edge_type resolved (fits_edge_below resolved bound) type t)
          (λ type. type_plain (fits_edge_below resolved bound) rest type t) (slice_get resolved.edges bound)
      by rest false = rest number t

  pub edge_plain : (number : ℕ) (t : PairTriple) → fits_edge resolved number (plain_triple t) ≡ fits_edge resolved number t
  edge_plain number t = edge_below_plain (length resolved.edges) number t
