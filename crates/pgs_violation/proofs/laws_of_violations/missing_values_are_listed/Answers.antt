use Rattle.pgs_violation.proofs.Carried.{missing_found, missing_given}
use Rattle.pgs_violation.proofs.laws_of_violations.missing_values_are_listed.Goals as goal

pub returns : goal.returns
returns c = λ resolved g number elem. (missing_found resolved g number elem, missing_given resolved g number elem)
