use Rattle.pgs_violation.proofs.Carried.{two_least_found, two_least_given}
use Rattle.pgs_violation.proofs.laws_of_violations.two_least_values_are_listed.Goals as goal

pub returns : goal.returns
returns c = λ resolved g number elem first second. (
  two_least_found resolved g number elem first second,
  two_least_given resolved g number elem first second,
)
