use Rattle.pgs_run_laws.proofs.AtOnce.{dump_at_once}
use Rattle.pgs_run_laws.proofs.laws.a_dump_is_one_transaction.Goals as goal

pub returns : goal.returns
returns c = λ areas text commits graph resolved limits. dump_at_once areas.a areas.b text commits graph resolved limits
