-- What a placed pattern asks where of each value that is written only the kind is asked, and whether the values that are written for
-- one key at one place agree.
use Rattle.std.specs.Prelude.{Bool, true, false, ◌&&◌, ◌||◌, ◌==◌, not, List, [], ◌∷◌}
use Rattle.std.specs.Option.{option_map_or}
use Rattle.std.specs.List.{list_all}
use Rattle.pgs_base.specs.declared.row.NodeRow.{NodeRow}
use Rattle.pgs_base.specs.Pair.{same_name, value_at}
use Rattle.pgs_base.specs.Value.{kind_of, is_of_kind, is_value}
use Rattle.pgs_syntax.specs.declared.pattern.Atom.{Atom}
use Rattle.pgs_syntax.specs.declared.pattern.Atom.TheVariants.{Equals}
use Rattle.pgs_syntax.specs.declared.resolved.Resolved.{Resolved}
use Rattle.pgs_syntax.specs.Matches.{same_value}
use Rattle.pgs_key_standing.specs.Placed.{Placed, passes_at, asks, asks_present, stand_from}

-- whether pairs are as an atom asks, but for its value
abbrev pub asks_kind : Resolved → List Atom → List NodeRow → Atom → Bool
asks_kind resolved atoms ps (Equals place key value) = passes_at ps place (λ p. option_map_or (is_of_kind (kind_of value)) (value_at key p.props) false)
asks_kind resolved atoms ps atom = asks resolved atoms ps atom

-- whether they are all that a placed pattern asks but for values, and can stand
abbrev pub ask_kinds : Resolved → Placed → List NodeRow → Bool
ask_kinds resolved placed ps =
    stand_from resolved placed.atoms ps 0 placed.kinds && list_all (asks_kind resolved placed.atoms ps) placed.atoms
    && list_all (asks_present ps) placed.exprs

-- whether two atoms ask for one value at one key of one place, or not for the same
abbrev pub agree : Atom → Atom → Bool
agree (Equals place key value) (Equals other name second) = not (place == other && same_name key name) || same_value value second
agree _ _ = true

abbrev pub all_agree : List Atom → Bool
all_agree [] = true
all_agree (atom ∷ atoms) = list_all (agree atom) atoms && all_agree atoms

-- whether the value that an atom asks for is one
abbrev pub has_literal : Atom → Bool
has_literal (Equals place key value) = is_value value
has_literal _ = true
