use Rattle.pgs_resolve.proofs.OneAnswer.{one_answer}
use Rattle.pgs_resolve.proofs.laws.one_answer.Goals as goal

pub returns : goal.returns
returns c = one_answer
