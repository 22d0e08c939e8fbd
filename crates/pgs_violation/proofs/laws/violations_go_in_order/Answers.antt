use Rattle.pgs_violation.proofs.InOrder.{violations_ascend}
use Rattle.pgs_violation.proofs.laws.violations_go_in_order.Goals as goal

pub returns : goal.returns
returns c = λ resolved g graph. violations_ascend g graph resolved
