-- When a type of one schema is contained in another schema, and what is outside. Both speak of all pairs, and all triples of pairs,
-- and know no shapes.
use Rattle.std.specs.Prelude.{◌≡◌, ℕ, Bool, true, false, ◌&&◌, pos, not, ◌==◌, nat_lt, length}
use Rattle.std.specs.Ordering.{int_eq}
use Rattle.std.specs.List.{list_all}
use Rattle.pgs_base.specs.declared.row.NodeRow.{NodeRow}
use Rattle.pgs_base.specs.declared.value.Value.{Value}
use Rattle.pgs_base.specs.declared.value.Value.TheVariants as values
use Rattle.pgs_base.specs.Pair.{is_pair, pair_of}
use Rattle.pgs_syntax.specs.declared.resolved.Resolved.{Resolved}
use Rattle.pgs_syntax.specs.declared.resolved.TypeNo.{TypeNo}
use Rattle.pgs_syntax.specs.declared.resolved.TypeNo.TheVariants as types
use Rattle.pgs_syntax.specs.Fitting.{fits_node, fits_edge}
use Rattle.pgs_syntax.specs.Join.{PairTriple, is_empty}
use Rattle.pgs_syntax.specs.Triples.{is_triple}
use Rattle.pgs_syntax.specs.Typed.{is_typed_node, is_typed_triple}
use Rattle.pgs_conform.specs.Shapes.{triple_of}
use Rattle.pgs_contain.specs.declared.outside.Outside.{Outside}
use Rattle.pgs_contain.specs.declared.outside.Outside.TheVariants as outsides
use Rattle.pgs_contain.specs.declared.outside.OwnedPair.{OwnedPair}

-- every pair that fits the node type is typed in the second schema: it fits a type of the guard that isn't abstract
abbrev pub IsNodeContained : Resolved → ℕ → Resolved → Type 0
IsNodeContained first number second =
    (p : NodeRow) → is_pair p ≡ true → fits_node first number p ≡ true → is_typed_node second p ≡ true

-- every triple of pairs that fits the edge type is typed in the second schema
abbrev pub IsEdgeContained : Resolved → ℕ → Resolved → Type 0
IsEdgeContained first number second =
    (t : PairTriple) → is_triple t ≡ true → fits_edge first number t ≡ true → is_typed_triple second t ≡ true

-- whatever fits the type of the first schema is typed in the second
abbrev pub IsContained : Resolved → TypeNo → Resolved → Type 0
IsContained first (types.Node number) second = IsNodeContained first number second
IsContained first (types.Edge number) second = IsEdgeContained first number second

-- whether a value is the plainest of its kind: the empty text, 0, false, the first day
abbrev pub is_plain_value : Value → Bool
is_plain_value (values.Text text) = is_empty text
is_plain_value (values.Int number) = int_eq number (pos 0)
is_plain_value (values.Bool truth) = not truth
is_plain_value (values.Date day) = day.0 == 1 && day.1 == 1 && day.2 == 1

-- whether each value of a pair is the plainest of its kind
abbrev pub is_plain : NodeRow → Bool
is_plain p = list_all (λ entry. is_plain_value entry.1) p.props

-- the pair that is owned, and the triple of three
abbrev pub pair_in : OwnedPair → NodeRow
pair_in own = pair_of own.labels own.props

abbrev pub triple_in : OwnedPair → OwnedPair → OwnedPair → PairTriple
triple_in source middle target = triple_of (pair_in source) (pair_in middle) (pair_in target)

-- a pair is outside: it fits the node type, is untyped in the second schema, and its values are the plainest
pub record IsNodeOutside (first : Resolved) (number : ℕ) (second : Resolved) (p : NodeRow) : Type 0 where
  pub pair : is_pair p ≡ true
  pub fits : fits_node first number p ≡ true
  pub untyped : is_typed_node second p ≡ false
  pub plain : is_plain p ≡ true

-- a triple of pairs is outside
pub record IsEdgeOutside (first : Resolved) (number : ℕ) (second : Resolved) (t : PairTriple) : Type 0 where
  pub triple : is_triple t ≡ true
  pub fits : fits_edge first number t ≡ true
  pub untyped : is_typed_triple second t ≡ false
  pub plain : (is_plain t.source && is_plain t.own && is_plain t.target) ≡ true

-- what is outside of a node type is a pair, and of an edge type a triple
abbrev pub IsOutside : Resolved → TypeNo → Resolved → Outside → Type 0
IsOutside first (types.Node number) second (outsides.Node own) = IsNodeOutside first number second (pair_in own)
IsOutside first (types.Node number) second (outsides.Edge source middle target) = ⊥
IsOutside first (types.Edge number) second (outsides.Node own) = ⊥
IsOutside first (types.Edge number) second (outsides.Edge source middle target) =
    IsEdgeOutside first number second (triple_in source middle target)

-- whether a schema has a type of this number
abbrev pub has_type : Resolved → TypeNo → Bool
has_type resolved (types.Node number) = nat_lt number (length resolved.nodes)
has_type resolved (types.Edge number) = nat_lt number (length resolved.edges)
