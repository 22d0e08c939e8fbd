-- What shapes mean: which pairs are in a shape, and which triples of pairs are in a triple of shapes. A list of shapes stands for
-- what is in some of them.
use Rattle.std.specs.Prelude.{◌≡◌, ℕ, Bool, true, ◌&&◌, ◌||◌, List, Option, Some, None}
use Rattle.std.specs.List.{list_any, list_all}
use Rattle.std.specs.Map.{keys_of}
use Rattle.pgs_base.specs.declared.row.NodeRow.{NodeRow}
use Rattle.pgs_base.specs.declared.value.Kind.{Kind}
use Rattle.pgs_base.specs.declared.value.Kind.TheVariants as kinds
use Rattle.pgs_base.specs.declared.value.Value.{Value}
use Rattle.pgs_base.specs.Pair.{has_name, value_at, is_pair}
use Rattle.pgs_base.specs.Value.{kind_of}
use Rattle.pgs_syntax.specs.Join.{PairTriple}
use Rattle.pgs_syntax.specs.Triples.{is_triple}
use Rattle.pgs_conform.specs.declared.options.Options.{Options}
use Rattle.pgs_conform.specs.declared.shape.Shape.{Shape}
use Rattle.pgs_conform.specs.declared.shape.Triple.{Triple as ShapeTriple}

-- whether options admit a value of a kind
abbrev pub admits_kind : Options → Kind → Bool
admits_kind options kinds.Text = options.text
admits_kind options kinds.Int = options.int
admits_kind options kinds.Bool = options.boolean
admits_kind options kinds.Date = options.date

-- whether options admit what stands at a key: nothing, or a value
abbrev pub admits : Options → Option Value → Bool
admits options None = options.absent
admits options (Some value) = admits_kind options (kind_of value)

-- whether labels are all of those that are asked for, and no further ones unless more are free
abbrev pub labels_meet : List (List ℕ) → Bool → List (List ℕ) → Bool
labels_meet asked more labels =
    list_all (λ label. has_name label labels) asked && list_all (λ label. more || has_name label asked) labels

-- whether properties have at each key that is named what its options admit, and no further key unless more are free
abbrev pub props_meet : List (List ℕ × Options) → Bool → List (List ℕ × Value) → Bool
props_meet keys more props =
    list_all (λ (key : List ℕ × Options). admits key.1 (value_at key.0 props)) keys
    && list_all (λ (entry : List ℕ × Value). more || has_name entry.0 (keys_of keys)) props

-- the triple of the pairs of an edge's source, of the edge itself, and of its target
abbrev pub triple_of : NodeRow → NodeRow → NodeRow → PairTriple
triple_of source own target = record { source = source; own = own; target = target }

-- whether a pair is in a shape
abbrev pub in_shape : Shape → NodeRow → Bool
in_shape shape p = labels_meet shape.labels shape.more_labels p.labels && props_meet shape.keys shape.more_keys p.props

-- whether a triple is in a triple of shapes, pair by pair
abbrev pub in_triple : ShapeTriple → PairTriple → Bool
in_triple shapes t = in_shape shapes.source t.source && in_shape shapes.middle t.own && in_shape shapes.target t.target

-- whether a pair is in some shape
abbrev pub in_some : List Shape → NodeRow → Bool
in_some shapes p = list_any (λ shape. in_shape shape p) shapes

-- whether a triple is in some triple of shapes
abbrev pub in_some_triple : List ShapeTriple → PairTriple → Bool
in_some_triple triples t = list_any (λ shapes. in_triple shapes t) triples

-- shapes denote a test: the pairs in some of them are those that pass it
abbrev pub Denotes : List Shape → (NodeRow → Bool) → Type 0
Denotes shapes test = (p : NodeRow) → is_pair p ≡ true → in_some shapes p ≡ test p

-- triples of shapes denote a test of triples
abbrev pub DenotesTriples : List ShapeTriple → (PairTriple → Bool) → Type 0
DenotesTriples triples test = (t : PairTriple) → is_triple t ≡ true → in_some_triple triples t ≡ test t
