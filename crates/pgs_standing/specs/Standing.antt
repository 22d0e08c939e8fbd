-- What can stand under a guard: what a node and an edge may carry where each element must be typed if the guard is strict, and has a
-- bounded number of labels and properties. It knows no shapes, and no keys.
use Rattle.std.specs.Prelude.{ℕ, Bool, ◌&&◌, ◌||◌, not, nat_le, length}
use Rattle.pgs_base.specs.declared.row.NodeRow.{NodeRow}
use Rattle.pgs_syntax.specs.declared.resolved.Resolved.{Resolved}
use Rattle.pgs_syntax.specs.Join.{PairTriple}
use Rattle.pgs_syntax.specs.Typed.{is_typed_node, is_typed_triple}

-- the most labels and properties of an element
abbrev pub most_labels : ℕ
most_labels = 64

abbrev pub most_props : ℕ
most_props = 256

-- whether an element may have so many
abbrev pub is_small : NodeRow → Bool
is_small p = nat_le (length p.labels) most_labels && nat_le (length p.props) most_props

abbrev pub is_small_triple : PairTriple → Bool
is_small_triple t = is_small t.source && is_small t.own && is_small t.target

-- whether the guard lets a node be of this pair, and an edge of this triple: it is loose, or they are typed
abbrev pub admits_node : Resolved → NodeRow → Bool
admits_node resolved p = not resolved.guard.strict || is_typed_node resolved p

abbrev pub admits_edge : Resolved → PairTriple → Bool
admits_edge resolved t = not resolved.guard.strict || is_typed_triple resolved t

-- whether a node of this pair can stand
abbrev pub can_stand_node : Resolved → NodeRow → Bool
can_stand_node resolved p = is_small p && admits_node resolved p

-- whether an edge of this triple can stand, as can both its ends
abbrev pub can_stand_edge : Resolved → PairTriple → Bool
can_stand_edge resolved t =
    can_stand_node resolved t.source && can_stand_node resolved t.target && is_small t.own && admits_edge resolved t
