-- The violations of one key from the rows of changed elements: each row has the key values that its element gets, or none where it is
-- outside the scope.
use Rattle.std.specs.Prelude.{ℕ, Bool, true, false, List, Option, Some, None, filter_map, slice_get, option_and_then, if◌then◌else◌}
use Rattle.pgs_base.specs.declared.element.Elem.{Elem}
use Rattle.pgs_base.specs.declared.part.Part.{Part}
use Rattle.pgs_syntax.specs.declared.key.Qualifiers.{Qualifiers}
use Rattle.pgs_syntax.specs.Join.{is_empty}
use Rattle.pgs_violation.specs.declared.violation.Violation.{Violation}
use Rattle.pgs_violation.specs.declared.violation.Violation.TheVariants.{Mandatory}
use Rattle.pgs_violation.specs.Violations.{two_least, count_outside}
use Rattle.pgs_keyindex.specs.declared.change.KeyChange.{KeyChange}
use Rattle.pgs_check.specs.declared.rule.Rule.{Rule}
use Rattle.pgs_check.specs.declared.rule.Rule.TheVariants as rules
use Rattle.pgs_check.specs.Clashes.{with_owners, with_earlier}

-- the change of an element under the key of a number, by its key values in the changed graph
abbrev pub change_of : ℕ → (Elem → Option (List (List Part))) → Elem → KeyChange
change_of number values elem = record { key = number; elem = elem; values = values elem }

-- 27 for an element with these key values
abbrev pub missing_value : ℕ → Elem → List (List Part) → Option Violation
missing_value number elem tuples = if is_empty tuples then Some (Mandatory number elem) else None

-- what a rule finds of an element with these key values
abbrev pub found_by : Rule → ℕ → Elem → List (List Part) → Option Violation
found_by rules.Mandatory number elem tuples = missing_value number elem tuples
found_by rules.Singleton number elem tuples = two_least number elem tuples
found_by (rules.Count bounds) number elem tuples = count_outside number bounds elem tuples

-- what it finds of a row
abbrev pub found_in : Rule → ℕ → KeyChange → Option Violation
found_in rule number row = option_and_then (found_by rule number row.elem) row.values

-- the first that it finds of rows
abbrev pub first_found : Rule → ℕ → List KeyChange → Option Violation
first_found rule number rows = slice_get (filter_map (found_in rule number) rows) 0

-- what is found, where it is asked for
abbrev pub first_if : Bool → Option Violation → Option Violation
first_if true found = found
first_if false found = None

-- what is found first, and else what is found after
abbrev pub first_or : Option Violation → Option Violation → Option Violation
first_or None after = after
first_or (Some found) after = Some found

-- the first 39 of rows, where a key has bounds
abbrev pub first_outside : Option (ℕ × ℕ) → ℕ → List KeyChange → Option Violation
first_outside None number rows = None
first_outside (Some bounds) number rows = first_found (rules.Count bounds) number rows

-- the least 29 that rows make, with the owners of their key values and among each other
abbrev pub least_shared : ℕ → (List Part → Option Elem) → List KeyChange → Option Violation
least_shared number owner rows = with_earlier number (λ tuple. None) (with_owners number owner None rows) rows

-- the first 29 or 39 of a key of this number that rows make, the first 28 before these, and the first violation of all
abbrev pub first_shared : Qualifiers → ℕ → (List Part → Option Elem) → List KeyChange → Option Violation
first_shared asked number owner rows = first_or (first_if asked.exclusive (least_shared number owner rows)) (first_outside asked.count number rows)

abbrev pub first_several : Qualifiers → ℕ → (List Part → Option Elem) → List KeyChange → Option Violation
first_several asked number owner rows =
    first_or (first_if asked.singleton (first_found rules.Singleton number rows)) (first_shared asked number owner rows)

abbrev pub first_of_rows : Qualifiers → ℕ → (List Part → Option Elem) → List KeyChange → Option Violation
first_of_rows asked number owner rows =
    first_or (first_if asked.mandatory (first_found rules.Mandatory number rows)) (first_several asked number owner rows)
