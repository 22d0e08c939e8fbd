use Rattle.pgs_violation.proofs.Counted.{counted_found, counted_given}
use Rattle.pgs_violation.proofs.laws_of_violations.counts_outside_are_listed.Goals as goal

pub returns : goal.returns
returns c = λ resolved g number elem count least most. (
  counted_found resolved g number elem count least most,
  counted_given resolved g number elem count least most,
)
