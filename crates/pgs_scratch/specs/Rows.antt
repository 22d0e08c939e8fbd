-- The violations of one key from its rows alone: the elements of its scope in order, each with its key values.
use Rattle.std.specs.Prelude.{ℕ, List, [], ◌∷◌, ◌++◌, Option, Some, None, filter_map, slice_get, option_map, if◌then◌else◌}
use Rattle.std.specs.List.{cons_option}
use Rattle.pgs_base.specs.declared.element.Elem.{Elem}
use Rattle.pgs_base.specs.declared.part.Part.{Part}
use Rattle.pgs_syntax.specs.declared.key.Qualifiers.{Qualifiers}
use Rattle.pgs_syntax.specs.Join.{is_empty}
use Rattle.pgs_violation.specs.declared.violation.Violation.{Violation}
use Rattle.pgs_violation.specs.declared.violation.Violation.TheVariants.{Mandatory, Exclusive}
use Rattle.pgs_violation.specs.Violations.{two_least, shared_tuple, count_outside, where_asked, where_bounded}
use Rattle.pgs_scratch.specs.declared.key_row.KeyRow.{KeyRow}

-- the row of an element
abbrev pub row_of : (Elem → List (List Part)) → Elem → KeyRow
row_of values elem = record { elem = elem; tuples = values elem }

-- 27 for a row without a key value, and 28 for one with several
abbrev pub missing_value : ℕ → KeyRow → Option Violation
missing_value number row = if is_empty row.tuples then Some (Mandatory number row.elem) else None

abbrev pub several_values : ℕ → KeyRow → Option Violation
several_values number row = two_least number row.elem row.tuples

-- the violation that two rows make that share a key value
abbrev pub shared_value : ℕ → KeyRow → KeyRow → Option Violation
shared_value number row later = option_map (Exclusive number row.elem later.elem) (shared_tuple row.tuples later.tuples)

-- 29 for a row that shares a key value with one of the later rows, with the first of these
abbrev pub first_sharer : ℕ → KeyRow → List KeyRow → Option Violation
first_sharer number row later = slice_get (filter_map (shared_value number row) later) 0

-- 29 for each row and those after it
abbrev pub shared_values : ℕ → List KeyRow → List Violation
shared_values number [] = []
shared_values number (row ∷ rows) = cons_option (first_sharer number row rows) (shared_values number rows)

-- 39 for a row whose number of key values isn't within the bounds
abbrev pub count_of_row : ℕ → ℕ × ℕ → KeyRow → Option Violation
count_of_row number bounds row = count_outside number bounds row.elem row.tuples

-- the violations of a key of this number that has these rows
abbrev pub rows_violations : Qualifiers → ℕ → List KeyRow → List Violation
rows_violations asked number rows =
    where_asked asked.mandatory (filter_map (missing_value number) rows)
    ++ where_asked asked.singleton (filter_map (several_values number) rows)
    ++ where_asked asked.exclusive (shared_values number rows)
    ++ where_bounded asked.count (λ bounds. filter_map (count_of_row number bounds) rows)
