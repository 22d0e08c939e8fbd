-- The join of pairs, and of triples of pairs. A pair is what an element carries, its labels and its properties, and is
-- written as a row. It is the join of two pairs where its labels and properties are theirs together; a property that
-- both have, has one value in both, since it is the pair's.
use Rattle.std.specs.Prelude.{ℕ, Bool, true, false, ◌&&◌, List, [], ◌∷◌, map, filter, flat_map}
use Rattle.std.specs.List.{list_any}
use Rattle.pgs_base.specs.declared.row.NodeRow.{NodeRow}
use Rattle.pgs_base.specs.declared.value.Value.{Value}
use Rattle.pgs_base.specs.Pair.{pair_of}

-- whether a list has no items
abbrev pub is_empty : {X : Type 0} → List X → Bool
is_empty [] = true
is_empty (x ∷ xs) = false

-- the ways to hand an item to the left of two lists, to the right, or to both
abbrev pub ways : {X : Type 0} → X → List X × List X → List (List X × List X)
ways x s = (x ∷ s.0, s.1) ∷ (s.0, x ∷ s.1) ∷ (x ∷ s.0, x ∷ s.1) ∷ []

-- the couples of lists that together have exactly the items of a list
abbrev pub splits : {X : Type 0} → List X → List (List X × List X)
splits [] = ([], []) ∷ []
splits (x ∷ xs) = flat_map (ways x) (splits xs)

-- each of some with each of others, put together
abbrev pub each_with_each : {X Y Z : Type 0} → (X → Y → Z) → List X → List Y → List Z
each_with_each f xs ys = flat_map (λ x. map (f x) ys) xs

-- two pairs, of two parts of labels and two parts of properties
abbrev pub two_pairs : List (List ℕ) × List (List ℕ) → List (List ℕ × Value) × List (List ℕ × Value) → NodeRow × NodeRow
two_pairs labels props = (pair_of labels.0 props.0, pair_of labels.1 props.1)

-- the couples of pairs whose join is the pair
abbrev pub halves : NodeRow → List (NodeRow × NodeRow)
halves p = each_with_each two_pairs (splits p.labels) (splits p.props)

-- a triple of pairs: of an edge's source, of the edge itself, and of its target
pub record PairTriple : Type 0 where
  pub source : NodeRow
  pub own : NodeRow
  pub target : NodeRow

-- two triples, of two pairs at each place
abbrev pub two_triples : NodeRow × NodeRow → NodeRow × NodeRow → NodeRow × NodeRow → PairTriple × PairTriple
two_triples source own target =
    (record { source = source.0; own = own.0; target = target.0 }, record { source = source.1; own = own.1; target = target.1 })

-- the couples of triples whose join, pair by pair, is the triple
abbrev pub triple_halves : PairTriple → List (PairTriple × PairTriple)
triple_halves t =
    flat_map (λ source. each_with_each (two_triples source) (halves t.own) (halves t.target)) (halves t.source)

-- a pair without labels and properties
abbrev pub is_empty_pair : NodeRow → Bool
is_empty_pair p = is_empty p.labels && is_empty p.props

-- what specifications speak of, pairs or triples: the couples whose join one is, and how a test of one pair is asked of it
pub record Joins (P : Type 0) : Type 0 where
  pub halves_of : P → List (P × P)
  pub asks : (NodeRow → Bool) → P → Bool

-- a test is asked of a pair itself; of a triple it is asked of the edge's own pair, and the pairs at both ends are empty
abbrev pub of_pairs : Joins NodeRow
of_pairs = record { halves_of = halves; asks = λ test p. test p }

abbrev pub of_triples : Joins PairTriple
of_triples = record {
  halves_of = triple_halves;
  asks = λ test t. is_empty_pair t.source && test t.own && is_empty_pair t.target;
}

-- whether it is a join of two, the first of which passes one test and the second the other
abbrev pub joined : {P : Type 0} → Joins P → (P → Bool) → (P → Bool) → P → Bool
joined {P} joins first second p =
    list_any (λ (s : P × P). first s.0) (filter (λ (s : P × P). second s.1) (joins.halves_of p))

-- whether it is a join of some, one for each test and passing it
abbrev pub joined_all : {P : Type 0} → Joins P → List (P → Bool) → P → Bool
joined_all joins [] p = joins.asks is_empty_pair p
joined_all joins (test ∷ tests) p = joined joins test (joined_all joins tests) p
