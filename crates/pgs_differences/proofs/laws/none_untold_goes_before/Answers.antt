use Rattle.pgs_differences.proofs.Fewest.{one_told}
use Rattle.pgs_differences.proofs.Nearer.{few_told, told_among, none_untold}
use Rattle.pgs_differences.proofs.laws.none_untold_goes_before.Goals as goal

pub returns-clause-few : goal.returns-clause-few
returns-clause-few c = few_told

pub returns-clause-some : goal.returns-clause-some
returns-clause-some c = one_told

pub returns-clause-told : goal.returns-clause-told
returns-clause-told c = told_among

pub returns-clause-before : goal.returns-clause-before
returns-clause-before c = none_untold
