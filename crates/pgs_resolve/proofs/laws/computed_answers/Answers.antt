use Rattle.pgs_resolve.proofs.OneAnswer.{computed_answers}
use Rattle.pgs_resolve.proofs.laws.computed_answers.Goals as goal

pub returns : goal.returns
returns c = computed_answers
