-- What types see of a pair: its labels, its keys and the kinds of its values, and none of the values.
use Rattle.std.specs.Prelude.{ℕ, Bool, ◌&&◌, List, nat_eq}
use Rattle.std.specs.Cmp.Lexicographic.{pointwise}
use Rattle.pgs_base.specs.declared.row.NodeRow.{NodeRow}
use Rattle.pgs_base.specs.declared.value.Value.{Value}
use Rattle.pgs_base.specs.Value.{kind_of, is_of_kind}
use Rattle.pgs_syntax.specs.Join.{PairTriple}

-- whether two properties have one key, and values of one kind
abbrev pub have_one_kind : List ℕ × Value → List ℕ × Value → Bool
have_one_kind a b = pointwise nat_eq a.0 b.0 && is_of_kind (kind_of b.1) a.1

-- whether two pairs look the same to types: they have the same labels and the same keys, with values of one kind at each key
abbrev pub looks_same : NodeRow → NodeRow → Bool
looks_same p q = pointwise (pointwise nat_eq) p.labels q.labels && pointwise have_one_kind p.props q.props

-- whether two triples do, pair by pair
abbrev pub triple_looks_same : PairTriple → PairTriple → Bool
triple_looks_same t u = looks_same t.source u.source && looks_same t.own u.own && looks_same t.target u.target
