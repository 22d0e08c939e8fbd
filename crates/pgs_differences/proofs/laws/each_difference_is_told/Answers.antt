use Rattle.pgs_differences.proofs.Each.{told, every}
use Rattle.pgs_differences.proofs.laws.each_difference_is_told.Goals as goal

pub returns-clause-told : goal.returns-clause-told
returns-clause-told c = told

pub returns-clause-every : goal.returns-clause-every
returns-clause-every c = every
