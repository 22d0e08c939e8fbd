-- 29 from the rows of changed elements and the owners of key values: the least of the violations that two elements make.
use Rattle.std.specs.Prelude.{◌≡◌, ◌↔◌, ℕ, ◌+◌, Bool, true, false, cond, not, List, [], ◌∷◌, count_by, Option, Some, None, if◌then◌else◌}
use Rattle.std.specs.declared.cmp.Ordering.{Ordering}
use Rattle.std.specs.declared.cmp.Ordering.TheVariants.{Less, Equal, Greater}
use Rattle.std.specs.Option.{unwrap_or}
use Rattle.std.specs.Ordering.{is_lt}
use Rattle.pgs_base.specs.declared.element.Elem.{Elem}
use Rattle.pgs_base.specs.declared.part.Part.{Part}
use Rattle.pgs_base.specs.Order.{elem_cmp}
use Rattle.pgs_violation.specs.declared.violation.Violation.{Violation}
use Rattle.pgs_violation.specs.declared.violation.Violation.TheVariants.{Exclusive}
use Rattle.pgs_violation.specs.Standing.{violation_cmp}
use Rattle.pgs_keyindex.specs.declared.change.KeyChange.{KeyChange}
use Rattle.pgs_keyindex.specs.Rows.{KeyRows, has_tuple, has_value}
use Rattle.pgs_check_affected.specs.Local.{is_one_of}

-- of what was found and a further violation, the lesser; what was found stays where they are one
abbrev pub lesser : Option Violation → Option Violation → Option Violation
lesser found None = found
lesser None (Some further) = Some further
lesser (Some found) (Some further) = if is_lt (violation_cmp further found) then Some further else Some found

-- the violation that two elements make that share a tuple, by their order: the lesser goes first, and there is none where they are one
abbrev pub clash_by : Ordering → ℕ → List Part → Elem → Elem → Option Violation
clash_by Less number tuple elem other = Some (Exclusive number elem other tuple)
clash_by Equal number tuple elem other = None
clash_by Greater number tuple elem other = Some (Exclusive number other elem tuple)

abbrev pub clash : ℕ → List Part → Elem → Elem → Option Violation
clash number tuple elem other = clash_by (elem_cmp elem other) number tuple elem other

-- what was found, or that an element makes with the holder of one of its tuples, where there is one
abbrev pub with_holder : ℕ → Elem → Option Violation → List Part → Option Elem → Option Violation
with_holder number elem found tuple None = found
with_holder number elem found tuple (Some other) = lesser found (clash number tuple elem other)

-- the same of several of its tuples
abbrev pub with_holders : ℕ → (List Part → Option Elem) → Elem → Option Violation → List (List Part) → Option Violation
with_holders number holder elem found [] = found
with_holders number holder elem found (tuple ∷ tuples) =
    with_holders number holder elem (with_holder number elem found tuple (holder tuple)) tuples

-- the key values that a change gives its element
abbrev pub tuples_of : KeyChange → List (List Part)
tuples_of change = unwrap_or change.values []

-- whether a tuple comes to an element: it didn't have it as a key value
abbrev pub comes : KeyRows → ℕ → Elem → List Part → Bool
comes rows number elem tuple = not (has_value rows number elem tuple)

-- the look-ups that the owners of a row's tuples take: one for the values that its element had, and one for each tuple that comes to it
abbrev pub look_ups : KeyRows → ℕ → KeyChange → ℕ
look_ups rows number row = 1 + count_by (comes rows number row.elem) (tuples_of row)

-- what was found, or what rows make with the owners of their tuples
abbrev pub with_owners : ℕ → (List Part → Option Elem) → Option Violation → List KeyChange → Option Violation
with_owners number owner found [] = found
with_owners number owner found (row ∷ rows) = with_owners number owner (with_holders number owner row.elem found (tuples_of row)) rows

-- the holders of tuples, after a row holds its own
abbrev pub entered : (List Part → Option Elem) → KeyChange → List Part → Option Elem
entered holder row tuple = cond (has_tuple tuple (tuples_of row)) (Some row.elem) (holder tuple)

-- what was found, or what rows make with the last row before that has the same tuple
abbrev pub with_earlier : ℕ → (List Part → Option Elem) → Option Violation → List KeyChange → Option Violation
with_earlier number holder found [] = found
with_earlier number holder found (row ∷ rows) =
    with_earlier number (entered holder row) (with_holders number holder row.elem found (tuples_of row)) rows

-- the elements beside those of a list that have a key value in an index: its owner for each tuple, where there is one
abbrev pub IsOwner : KeyRows → ℕ → List Elem → (List Part → Option Elem) → Type 0
IsOwner rows number changed owner = (tuple : List Part) (elem : Elem) →
    ((has_value rows number elem tuple ≡ true) × (is_one_of changed elem ≡ false)) ↔ (owner tuple ≡ Some elem)
