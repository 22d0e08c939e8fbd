-- When an index stands for a graph.
use Rattle.std.specs.Prelude.{◌≡◌, ℕ, zero, suc, Bool, List, map, Option, Some, None, slice_get, if◌then◌else◌}
use Rattle.pgs_base.specs.declared.element.Elem.{Elem}
use Rattle.pgs_base.specs.declared.part.Part.{Part}
use Rattle.pgs_base.specs.Graph.{Graph}
use Rattle.pgs_syntax.specs.declared.key.Key.{Key}
use Rattle.pgs_syntax.specs.declared.resolved.Resolved.{Resolved}
use Rattle.pgs_syntax.specs.KeyValues.{is_in_scope, key_values}
use Rattle.pgs_keyindex.specs.Index.{IndexState}
use Rattle.pgs_keyindex.specs.Rows.{values_at}

-- the key of a number, from 1
abbrev pub key_at : List Key → ℕ → Option Key
key_at keys zero = None
key_at keys (suc place) = slice_get keys place

-- the key values of an element that is in the scope of a key
abbrev pub values_in_scope : Resolved → Graph → Key → Elem → Option (List (List Part))
values_in_scope resolved g key elem = if is_in_scope resolved g key elem then Some (key_values resolved g key elem) else None

-- which keys are exclusive
abbrev pub exclusive_keys : List Key → List Bool
exclusive_keys keys = map (λ (key : Key). key.qualifiers.exclusive) keys

-- An index stands for a graph under keys: for each key it has exactly the elements of the scope, with exactly their key values.
pub record StandsFor (resolved : Resolved) (g : Graph) (keys : List Key) (index : IndexState) : Type 0 where
  pub exclusive : index.exclusive ≡ exclusive_keys keys
  pub rows : (number : ℕ) (key : Key) → key_at keys number ≡ Some key → (elem : Elem) →
      values_at index.rows number elem ≡ values_in_scope resolved g key elem
