use Rattle.pgs_resolve.proofs.Cycles.{cycle_none, none_cycle, cycle_some, some_cycle}
use Rattle.pgs_resolve.proofs.laws.the_least_name_on_a_cycle_is_told.Goals as goal

pub returns-clause-none : goal.returns-clause-none
returns-clause-none c = λ script. (cycle_none script, none_cycle script)

pub returns-clause-some : goal.returns-clause-some
returns-clause-some c = λ script name. (cycle_some script name, some_cycle script name)
