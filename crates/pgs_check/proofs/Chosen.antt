-- What is found first, and else what is found after.
use Rattle.std.proofs.Common.{◌≡◌, Bool, true, Option, Some, sym, ap}
use Rattle.pgs_violation.specs.declared.violation.Violation.{Violation}
use Rattle.pgs_check.specs.Rows.{first_if, first_or}

pub or_found : (first after : Option Violation) (found : Violation) → first ≡ Some found → Some found ≡ first_or first after
or_found first after found is = sym (ap (λ o. first_or o after) is)

pub asked_is : (asked : Bool) (found : Option Violation) → asked ≡ true → first_if asked found ≡ found
asked_is asked found is = ap (λ b. first_if b found) is
