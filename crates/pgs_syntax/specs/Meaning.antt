-- What a join is in other words: of each label and of each key.
use Rattle.std.specs.Prelude.{◌≡◌, ℕ, Bool, true, ◌||◌, List, [], ◌∷◌, Option, Some, None}
use Rattle.pgs_base.specs.declared.row.NodeRow.{NodeRow}
use Rattle.pgs_base.specs.declared.value.Value.{Value}
use Rattle.pgs_base.specs.Pair.{has_name, value_at, is_pair}
use Rattle.pgs_syntax.specs.Join.{is_empty_pair, PairTriple}

-- what two maps have at a key together: they agree where both have a value
abbrev pub IsUnionAt : Option Value → Option Value → Option Value → Type 0
IsUnionAt None None whole = whole ≡ None
IsUnionAt (Some v) None whole = whole ≡ Some v
IsUnionAt None (Some w) whole = whole ≡ Some w
IsUnionAt (Some v) (Some w) whole = (v ≡ w) × (whole ≡ Some v)

-- a pair is the join of two: it has the labels of both, their maps agree on shared keys, and it has the values of both
pub record IsJoin (first second p : NodeRow) : Type 0 where
  pub labels : (label : List ℕ) → has_name label p.labels ≡ (has_name label first.labels || has_name label second.labels)
  pub values : (key : List ℕ) → IsUnionAt (value_at key first.props) (value_at key second.props) (value_at key p.props)

-- there are two pairs whose join is the pair and which together pass a test
abbrev pub IsJoinWhere : (NodeRow → NodeRow → Bool) → NodeRow → Type 0
IsJoinWhere test p = (first : NodeRow) × (second : NodeRow) × (is_pair first ≡ true) × (is_pair second ≡ true)
    × IsJoin first second p × (test first second ≡ true)

-- there are two pairs whose join is the pair, one of which passes the first test and the other the second
abbrev pub IsJoinOf : (NodeRow → Bool) → (NodeRow → Bool) → NodeRow → Type 0
IsJoinOf f g p = (first : NodeRow) × (second : NodeRow) × (is_pair first ≡ true) × (is_pair second ≡ true)
    × IsJoin first second p × (f first ≡ true) × (g second ≡ true)

-- there are pairs, one for each test and passing it, whose join is the pair; the join of none is the empty pair
abbrev pub IsJoinOfAll : List (NodeRow → Bool) → NodeRow → Type 0
IsJoinOfAll [] p = is_empty_pair p ≡ true
IsJoinOfAll (test ∷ tests) p = (first : NodeRow) × (rest : NodeRow) × (is_pair first ≡ true) × (is_pair rest ≡ true)
    × IsJoin first rest p × (test first ≡ true) × IsJoinOfAll tests rest

-- there are two pairs whose join is the pair and of which a claim holds
abbrev pub IsJoinSuch : (NodeRow → NodeRow → Type 0) → NodeRow → Type 0
IsJoinSuch Claim p = (first : NodeRow) × (second : NodeRow) × (is_pair first ≡ true) × (is_pair second ≡ true)
    × IsJoin first second p × Claim first second

-- there are pairs that pass the tests of a source and of a target, and the edge's own pair with others at its ends passes the
-- test of a middle; the pair at each end is the join of these two
abbrev pub IsEdgeOf : (NodeRow → Bool) → (NodeRow → Bool) → (PairTriple → Bool) → PairTriple → Type 0
IsEdgeOf source target middle t =
    IsJoinSuch (λ of_source first. IsJoinSuch (λ of_target last.
    (source of_source ≡ true) × (target of_target ≡ true) × (middle (record { source = first; own = t.own; target = last }) ≡ true))
    t.target) t.source
