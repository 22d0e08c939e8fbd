use Rattle.pgs_violation.specs.Violations.{violations}
use Rattle.pgs_violation.proofs.FirstOf.{first_refused, first_conforms, empty_list}
use Rattle.pgs_violation.proofs.laws.verdict_is_the_first_violation.Goals as goal

pub returns-clause-refused : goal.returns-clause-refused
returns-clause-refused c = λ resolved g violation. first_refused (violations resolved g) violation

pub returns-clause-conforming : goal.returns-clause-conforming
returns-clause-conforming c = λ resolved g. first_conforms (violations resolved g)

pub returns-clause-conforms : goal.returns-clause-conforms
returns-clause-conforms c = λ resolved g. empty_list (violations resolved g)
