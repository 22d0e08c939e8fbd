-- The row of a node under a key whose two patterns are one node variable each: it is told by the node's own labels and properties.
use Rattle.std.specs.Prelude.{◌≡◌, ℕ, Bool, true, false, ◌&&◌, ◌||◌, not, List, [], ◌∷◌, Option, Some, None, option_map, option_and_then, cond}
use Rattle.std.specs.Option.{option_map_or}
use Rattle.std.specs.List.{list_all}
use Rattle.pgs_base.specs.declared.element.Elem.{Elem}
use Rattle.pgs_base.specs.declared.part.Part.{Part}
use Rattle.pgs_base.specs.declared.part.Part.TheVariants as parts
use Rattle.pgs_base.specs.declared.row.NodeRow.{NodeRow}
use Rattle.pgs_base.specs.declared.value.Value.{Value}
use Rattle.pgs_base.specs.Pair.{value_at}
use Rattle.pgs_match.specs.Tests.{own_passes}
use Rattle.pgs_syntax.specs.declared.key.Key.{Key}
use Rattle.pgs_syntax.specs.declared.pattern.Expr.{Expr}
use Rattle.pgs_syntax.specs.declared.pattern.Expr.TheVariants.{Element, Property}
use Rattle.pgs_syntax.specs.declared.pattern.Pattern.{Pattern}
use Rattle.pgs_syntax.specs.declared.resolved.Resolved.{Resolved}
use Rattle.pgs_check_affected.specs.declared.known.Known.{Known}
use Rattle.pgs_check_affected.specs.Unseen.{is_one_outcome, is_one_value, row_passes, value_of}
use Rattle.pgs_keyindex.specs.declared.change.KeyChange.{KeyChange}

-- a pattern is one node variable, and both patterns of a key are
abbrev pub IsNodeAlone : Pattern → Type 0
IsNodeAlone pattern = pattern.edge_vars ≡ false ∷ []

abbrev pub IsLocal : Key → Type 0
IsLocal key = IsNodeAlone key.scope × IsNodeAlone key.descriptor

-- what an expression over x gives of an element with these properties, and the tuple of expressions, where each gives something
abbrev pub own_part : Elem → List (List ℕ × Value) → Expr → Option Part
own_part elem props (Element var) = Some (parts.Elem elem)
own_part elem props (Property var key) = option_map parts.Value (value_at key props)

abbrev pub own_tuple : Elem → List (List ℕ × Value) → List Expr → Option (List Part)
own_tuple elem props [] = Some []
own_tuple elem props (expr ∷ exprs) =
    option_and_then (λ part. option_map (λ rest. part ∷ rest) (own_tuple elem props exprs)) (own_part elem props expr)

-- the key values of an element with this pair, where it passes the descriptor's test
abbrev pub own_tuples : Resolved → Key → Elem → NodeRow → List (List Part)
own_tuples resolved key elem own =
    cond (own_passes resolved key.descriptor 0 elem own) (option_map_or (λ tuple. tuple ∷ []) (own_tuple elem own.props key.exprs) []) []

-- the same of an element by its row, where it has one that passes the scope's test too
abbrev pub values_by_row : Resolved → Key → Elem → Option NodeRow → Option (List (List Part))
values_by_row resolved key elem None = None
values_by_row resolved key elem (Some own) = cond (own_passes resolved key.scope 0 elem own) (Some (own_tuples resolved key elem own)) None

-- whether both rows of an element of a change give an expression over x the same
abbrev pub keeps_part : Known → Expr → Bool
keeps_part known (Element var) = true
keeps_part known (Property var name) = is_one_value (value_of name known.before) (value_of name known.after)

-- whether both pass the descriptor's test or neither does, and both give all expressions the same
abbrev pub keeps_tuples : Resolved → Key → Known → Bool
keeps_tuples resolved key known =
    is_one_outcome (row_passes resolved key.descriptor 0 known.elem known.before) (row_passes resolved key.descriptor 0 known.elem known.after)
    && list_all (keeps_part known) key.exprs

-- whether an element of a change may have another place in the scope or other key values: one of its rows passes the scope's test, and
-- not both with the same key values
abbrev pub is_altered : Resolved → Key → Known → Bool
is_altered resolved key known =
    let was = row_passes resolved key.scope 0 known.elem known.before in
    let is = row_passes resolved key.scope 0 known.elem known.after in
    cond (was && is) (not (keeps_tuples resolved key known)) (was || is)

-- the row of an element of a change, by its new row
abbrev pub altered_to : Resolved → Key → ℕ → Known → KeyChange
altered_to resolved key number known = record { key = number; elem = known.elem; values = values_by_row resolved key known.elem known.after }
