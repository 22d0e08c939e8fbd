-- What the join of triples is in other words, pair by pair.
use Rattle.std.specs.Prelude.{◌≡◌, Bool, true, ◌&&◌, List, [], ◌∷◌}
use Rattle.pgs_base.specs.Pair.{is_pair}
use Rattle.pgs_syntax.specs.Join.{PairTriple, is_empty_pair}
use Rattle.pgs_syntax.specs.Meaning.{IsJoin}

-- whether each row of a triple is a pair
abbrev pub is_triple : PairTriple → Bool
is_triple t = is_pair t.source && is_pair t.own && is_pair t.target

-- whether each pair of a triple is empty
abbrev pub is_empty_triple : PairTriple → Bool
is_empty_triple t = is_empty_pair t.source && is_empty_pair t.own && is_empty_pair t.target

-- a triple is the join of two: each of its pairs is the join of theirs
pub record IsTripleJoin (first second t : PairTriple) : Type 0 where
  pub source : IsJoin first.source second.source t.source
  pub own : IsJoin first.own second.own t.own
  pub target : IsJoin first.target second.target t.target

-- there are two triples whose join is the triple, one of which passes the first test and the other the second
abbrev pub IsTripleJoinOf : (PairTriple → Bool) → (PairTriple → Bool) → PairTriple → Type 0
IsTripleJoinOf f g t = (first : PairTriple) × (second : PairTriple) × (is_triple first ≡ true) × (is_triple second ≡ true)
    × IsTripleJoin first second t × (f first ≡ true) × (g second ≡ true)

-- there are triples, one for each test and passing it, whose join is the triple; the join of none is the empty triple
abbrev pub IsTripleJoinOfAll : List (PairTriple → Bool) → PairTriple → Type 0
IsTripleJoinOfAll [] t = is_empty_triple t ≡ true
IsTripleJoinOfAll (test ∷ tests) t = (first : PairTriple) × (rest : PairTriple) × (is_triple first ≡ true) × (is_triple rest ≡ true)
    × IsTripleJoin first rest t × (test first ≡ true) × IsTripleJoinOfAll tests rest
