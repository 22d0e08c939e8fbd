use Rattle.pgs_match.proofs.Sorting.{one_by_order, rises}
use Rattle.pgs_match.proofs.ordered.in_order.Goals as goal

pub returns-clause-kept : goal.returns-clause-kept
returns-clause-kept c = λ elem inside. one_by_order elem c.each_once.result (c.each_once.ensures.kept elem inside)

pub returns-clause-ascending : goal.returns-clause-ascending
returns-clause-ascending c = rises c.each_once.result c.each_once.ensures.ascending

pub returns-clause-no_other : goal.returns-clause-no_other
returns-clause-no_other c = c.each_once.ensures.no_other

pub returns-clause-few : goal.returns-clause-few
returns-clause-few c = c.each_once.ensures.few
