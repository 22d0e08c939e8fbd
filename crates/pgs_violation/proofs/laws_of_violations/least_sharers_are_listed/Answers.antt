use Rattle.pgs_violation.proofs.Carried.{sharers_found, sharers_given}
use Rattle.pgs_violation.proofs.laws_of_violations.least_sharers_are_listed.Goals as goal

pub returns : goal.returns
returns c = λ resolved g number first second tuple graph. (
  sharers_found resolved g graph number first second tuple,
  sharers_given resolved g graph number first second tuple,
)
