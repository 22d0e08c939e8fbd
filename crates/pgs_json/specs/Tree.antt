-- The data that a tree stands for.
use Rattle.std.specs.Prelude.{ℕ, ◌&&◌, Bool, true, List, [], ◌∷◌, map, Option, Some, option_map, option_and_then}
use Rattle.std.specs.Borrow.{Bor}
use Rattle.std.specs.Ordering.{nat_cmp, is_lt}
use Rattle.std.specs.Cmp.Lexicographic.{slice_cmp}
use Rattle.serde_json.specs.Data.{Data, null, boolean, number, string, array, object, Items, Members, no_members, member, put}
use Rattle.json.specs.Json as json
use Rattle.serde_json.specs.Read.{of_json}
use Rattle.serde_json.specs.View.{number_view, items_of}
use Rattle.pgs_json.specs.declared.tree.Json.{Json, fold-Json}
use Rattle.pgs_json.specs.declared.tree.Json.TheOpen.{Json-F}

abbrev pub members_of : List (Bor (List ℕ) × Data) → Members
members_of [] = no_members
members_of (m ∷ ms) = member m.0.now m.1 (members_of ms)

-- one level, with each value inside already seen as its data
abbrev pub view_step : Json-F Data → Data
view_step Json-F.Null = null
view_step (Json-F.Bool b) = boolean b
view_step (Json-F.Number x) = number (number_view x)
view_step (Json-F.String s) = string s.now
view_step (Json-F.Array v) = array (items_of v.items)
view_step (Json-F.Object v) = object (members_of v.items)

abbrev pub view : Json → Data
view = fold-Json Data view_step

abbrev pub items_view : List Json → Items
items_view vs = items_of (map view vs)

abbrev pub members_view : List (Bor (List ℕ) × Json) → Members
members_view ms = members_of (map (λ m. (m.0, view m.1)) ms)

-- whether the names ascend strictly, from above this one on
abbrev pub ascend_after : List ℕ → Members → Bool
ascend_after k no_members = true
ascend_after k (member l d ms) = is_lt (slice_cmp nat_cmp k l) && ascend_after l ms

abbrev pub ascend : Members → Bool
ascend no_members = true
ascend (member k d ms) = ascend_after k ms

-- members put in one after another among those found, so the last value of a name stays
abbrev pub put_all : Members → Members → Members
put_all no_members found = found
put_all (member k d ms) found = put_all ms (put k d found)

-- the members in the order of the text, where each of their values is one
abbrev pub of_pairs : json.Members → Option Members
of_pairs json.no_members = Some no_members
of_pairs (json.member k j ms) = option_and_then (λ d. option_map (member k d) (of_pairs ms)) (of_json j)
