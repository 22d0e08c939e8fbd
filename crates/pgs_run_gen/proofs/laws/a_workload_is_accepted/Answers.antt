use Rattle.pgs_run_gen.proofs.Accepting.{all_accepted}
use Rattle.pgs_run_gen.proofs.laws.a_workload_is_accepted.Goals as goal

pub returns-clause-accepted : goal.returns-clause-accepted
returns-clause-accepted c = λ start count few. (all_accepted start count few).accepted

pub returns-clause-rejected : goal.returns-clause-rejected
returns-clause-rejected c = λ start count few. (all_accepted start count few).rejected
