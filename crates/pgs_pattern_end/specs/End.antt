-- Where a pattern ends at an element: the first of its parts that no match meets.
use Rattle.std.specs.Prelude.{◌≡◌, ℕ, Bool, true, false, not, ◌&&◌, List, [], ◌∷◌, Option, Some, None, take, slice_get}
use Rattle.std.specs.List.{list_all}
use Rattle.pgs_base.specs.declared.element.Elem.{Elem}
use Rattle.pgs_base.specs.declared.part.Part.{Part}
use Rattle.pgs_base.specs.Graph.{Graph}
use Rattle.pgs_syntax.specs.declared.resolved.Resolved.{Resolved}
use Rattle.pgs_syntax.specs.Join.{is_empty}
use Rattle.pgs_syntax.specs.KeyValues.{is_in_scope, key_values}
use Rattle.pgs_syntax.specs.Valid.{is_valid_key_of}
use Rattle.pgs_match.specs.Planned.{first_elem}
use Rattle.pgs_pattern_end.specs.declared.front.Front.{Front}
use Rattle.pgs_pattern_end.specs.declared.front.PatternEnd.{PatternEnd}

-- whether the keys of a part are of a schema
abbrev pub is_front_of : Resolved → Front → Bool
is_front_of resolved front = is_valid_key_of resolved front.upto && is_valid_key_of resolved front.before

-- whether some match of the places up to a part starts at an element
abbrev pub is_placed : Resolved → Graph → Elem → Front → Bool
is_placed resolved g elem front = is_in_scope resolved g front.upto elem

-- whether some match that starts at an element defines all expressions up to a part
abbrev pub is_defined : Resolved → Graph → Elem → Front → Bool
is_defined resolved g elem front = not (is_empty (key_values resolved g front.upto elem))

-- the element that the first of some tuples begins with
abbrev pub first_of : List (List Part) → Option Elem
first_of [] = None
first_of (tuple ∷ tuples) = first_elem tuple

-- the least element that the variable of a part takes in the matches of what is before it
abbrev pub least_before : Resolved → Graph → Elem → Front → Option Elem
least_before resolved g elem front = first_of (key_values resolved g front.before elem)

-- whether a part, of this number from 0, is the first that isn't met: each before it is
abbrev pub IsFirstUnmet : (Front → Bool) → List Front → ℕ → Front → Type 0
IsFirstUnmet is_met fronts part front =
    (slice_get fronts part ≡ Some front) × (is_met front ≡ false) × (list_all is_met (take part fronts) ≡ true)

-- Where parts end, by a test: all are met, or the first that isn't is told, with the least element there.
abbrev pub IsEnd : (Front → Bool) → (Front → Option Elem) → List Front → Option PatternEnd → Type 0
IsEnd is_met least fronts None = list_all is_met fronts ≡ true
IsEnd is_met least fronts (Some end) =
    (front : Front) × IsFirstUnmet is_met fronts end.part front × (end.from ≡ least front)
