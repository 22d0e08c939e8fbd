use Rattle.pgs_violation.specs.Violations.{violations}
use Rattle.pgs_violation.proofs.FirstOf.{first_is_least}
use Rattle.pgs_violation.proofs.InOrder.{violations_ascend}
use Rattle.pgs_violation.proofs.laws_of_violations.the_verdict_names_the_least_violation.Goals as goal

pub returns : goal.returns
returns c = λ resolved g violation graph. first_is_least (violations resolved g) violation (violations_ascend g graph resolved)
