-- The rows of all scopes of a graph, by which its index is made, and what is said of a graph that is judged from scratch.
use Rattle.std.specs.Prelude.{◌≡◌, ℕ, ◌+◌, List, [], ◌∷◌, ◌++◌, Some, map}
use Rattle.pgs_base.specs.declared.element.Elem.{Elem}
use Rattle.pgs_base.specs.declared.part.Part.{Part}
use Rattle.pgs_base.specs.Graph.{Graph}
use Rattle.pgs_syntax.specs.declared.key.Key.{Key}
use Rattle.pgs_syntax.specs.declared.resolved.Resolved.{Resolved}
use Rattle.pgs_syntax.specs.KeyValues.{scope_of, key_values}
use Rattle.pgs_violation.specs.declared.violation.Verdict.TheVariants.{Conforms, Refused}
use Rattle.pgs_violation.specs.Violations.{verdict}
use Rattle.pgs_keyindex.specs.declared.change.KeyChange.{KeyChange}
use Rattle.pgs_scratch.specs.declared.judging.Judged.{Judged}
use Rattle.pgs_scratch.specs.declared.judging.Judged.TheVariants.{Conforming, Violated}
use Rattle.pgs_scratch.specs.declared.key_row.KeyRow.{KeyRow}

-- a row as one of an index, under the key of a number
abbrev pub indexed_row : ℕ → KeyRow → KeyChange
indexed_row number row = record { key = number; elem = row.elem; values = Some row.tuples }

-- the row of an element of a key's scope, with its key values
abbrev pub scope_row : ℕ → (Elem → List (List Part)) → Elem → KeyChange
scope_row number values elem = record { key = number; elem = elem; values = Some (values elem) }

-- the rows of the scope of a key of this number
abbrev pub scope_rows : Resolved → Graph → ℕ → Key → List KeyChange
scope_rows resolved g number key = map (scope_row number (key_values resolved g key)) (scope_of resolved g key)

-- the rows of the scopes of keys, of which the first has this number
abbrev pub keys_rows : Resolved → Graph → ℕ → List Key → List KeyChange
keys_rows resolved g number [] = []
keys_rows resolved g number (key ∷ keys) = scope_rows resolved g number key ++ keys_rows resolved g (number + 1) keys

-- a graph that conforms is judged by the rows of the scopes of all keys, and another one by its first violation
abbrev pub IsJudged : Resolved → Graph → Judged → Type 0
IsJudged resolved g (Conforming rows) = (verdict resolved g ≡ Conforms) × (rows ≡ keys_rows resolved g 1 resolved.guard.keys)
IsJudged resolved g (Violated violation) = verdict resolved g ≡ Refused violation
