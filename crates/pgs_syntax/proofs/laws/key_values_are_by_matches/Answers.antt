use Rattle.pgs_syntax.proofs.Assigned.{value_found, value_given}
use Rattle.pgs_syntax.proofs.laws.key_values_are_by_matches.Goals as goal

pub returns : goal.returns
returns c = λ resolved g key elem tuple. (
  value_found resolved g key elem tuple,
  λ any. value_given resolved g key elem tuple any.0 any.1 any.2 any.3,
)
