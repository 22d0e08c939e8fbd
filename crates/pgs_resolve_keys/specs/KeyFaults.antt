-- The faults of keys.
use Rattle.std.specs.Prelude.{ℕ, Bool, true, false, not, ◌&&◌, ◌||◌, List, [], ◌∷◌, ◌++◌, length, Option, filter, nat_lt, unwrap_or, option_map}
use Rattle.std.specs.List.{list_any, list_all, find}
use Rattle.std.specs.Option.{option_map_or}
use Rattle.pgs_syntax.specs.declared.raw.RawExpr.{RawExpr}
use Rattle.pgs_syntax.specs.declared.raw.RawKey.{RawKey}
use Rattle.pgs_syntax.specs.declared.raw.RawPath.{RawPath}
use Rattle.pgs_base.specs.Pair.{same_name, has_name}
use Rattle.pgs_syntax.specs.Valid.{is_connected}
use Rattle.pgs_syntax.specs.declared.key_cause.KeyCause.{KeyCause}
use Rattle.pgs_syntax.specs.declared.key_cause.KeyCause.TheVariants.{NoX, TwoKinds, Shared, Disconnected, UnknownVariable, TooLarge}
use Rattle.pgs_resolve_keys.specs.Patterns.{Place, places_of, named_in, x_of, pattern_of}

-- the paths of a written descriptor
abbrev pub within_of : RawKey → List RawPath
within_of key = unwrap_or key.within []

-- the names in the descriptor: without WITHIN it is x alone
abbrev pub descriptor_names : RawKey → List ℕ → List (List ℕ)
descriptor_names key x = option_map_or (λ paths. named_in (places_of paths)) key.within (x ∷ [])

-- whether the scope names no variable, or a written descriptor doesn't name its first one
abbrev pub has_no_x : RawKey → Bool
has_no_x key = not (option_map_or (λ x. has_name x (descriptor_names key x)) (x_of key) false)

-- the edge places among places, and the node places
abbrev pub edge_places : List Place → List Place
edge_places places = filter (λ (place : Place). place.is_edge) places

abbrev pub node_places : List Place → List Place
node_places places = filter (λ (place : Place). not place.is_edge) places

-- whether a variable stands at a node place and at an edge place
abbrev pub has_two_kinds : RawKey → Bool
has_two_kinds key =
    let places = places_of key.scope ++ places_of (within_of key) in
    list_any (λ name. has_name name (named_in (node_places places))) (named_in (edge_places places))

-- whether another variable than x is named in scope and descriptor
abbrev pub shares_more : RawKey → Bool
shares_more key =
    let x = unwrap_or (x_of key) [] in
    list_any (λ name. not (same_name x name) && has_name name (named_in (places_of (within_of key)))) (named_in (places_of key.scope))

-- whether the variables of the scope, or of the descriptor, aren't all linked by edges
abbrev pub is_apart : RawKey → Bool
is_apart key =
    let x = unwrap_or (x_of key) [] in
    let is_linked : List RawPath → Bool = λ paths. is_connected (pattern_of (record { nodes = []; edges = [] }) x paths) in
    not (is_linked key.scope) || not (option_map_or is_linked key.within true)

-- whether an expression names a variable that isn't in the descriptor
abbrev pub reads_unknown : RawKey → Bool
reads_unknown key =
    let names = descriptor_names key (unwrap_or (x_of key) []) in
    not (list_all (λ (expr : RawExpr). has_name expr.var names) key.exprs)

-- whether paths are over 4, or have over 8 edge places
abbrev pub are_too_large : List RawPath → Bool
are_too_large paths = nat_lt 4 (length paths) || nat_lt 8 (length (edge_places (places_of paths)))

-- whether a key of this number, from 1 in the script, is too large
abbrev pub is_too_large : ℕ → RawKey → Bool
is_too_large number key =
    are_too_large key.scope || are_too_large (within_of key) || nat_lt 16 (length key.exprs) || nat_lt 256 number

-- the first cause that a key of this number has, where it has one
abbrev pub cause_of : ℕ → RawKey → Option KeyCause
cause_of number key =
    option_map (λ (cause : Bool × KeyCause). cause.1)
    (find (λ (cause : Bool × KeyCause). cause.0)
    ((has_no_x key, NoX) ∷ (has_two_kinds key, TwoKinds) ∷ (shares_more key, Shared) ∷ (is_apart key, Disconnected)
    ∷ (reads_unknown key, UnknownVariable) ∷ (is_too_large number key, TooLarge) ∷ []))
