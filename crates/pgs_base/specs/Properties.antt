-- Properties: values at keys.
use Rattle.std.specs.Prelude.{ℕ, Bool, ◌&&◌, List, Option}
use Rattle.std.specs.Ordering.{nat_cmp}
use Rattle.std.specs.Cmp.Lexicographic.{slice_cmp}
use Rattle.std.specs.List.{list_all}
use Rattle.std.specs.BTreeMap.{insert_entry}
use Rattle.std.specs.Map.{keys_of, lookup, remove_entry}
use Rattle.pgs_base.specs.declared.value.Value.{Value}
use Rattle.pgs_base.specs.Names.{same_name, are_names}
use Rattle.pgs_base.specs.Value.{is_value}

-- the value at a key, where it is present
abbrev pub value_at : List ℕ → List (List ℕ × Value) → Option Value
value_at key props = lookup (same_name key) props

-- properties with a value put in at a key, and with the key taken out
abbrev pub put_value : List (List ℕ × Value) → List ℕ → Value → List (List ℕ × Value)
put_value props key value = insert_entry (slice_cmp nat_cmp) props key value

abbrev pub take_value : List (List ℕ × Value) → List ℕ → List (List ℕ × Value)
take_value props key = remove_entry (same_name key) props

-- whether the value at a key is one
abbrev pub has_value : List ℕ × Value → Bool
has_value entry = is_value entry.1

-- whether properties are those of an element: their keys are such names, and their values are values
abbrev pub are_props : List (List ℕ × Value) → Bool
are_props props = are_names (keys_of props) && list_all has_value props
