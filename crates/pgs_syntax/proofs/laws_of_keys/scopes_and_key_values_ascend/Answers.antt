use Rattle.pgs_syntax.proofs.InOrder.{scope_ascends, values_ascend}
use Rattle.pgs_syntax.proofs.laws_of_keys.scopes_and_key_values_ascend.Goals as goal

pub returns-clause-scope : goal.returns-clause-scope
returns-clause-scope c = λ resolved g key graph. scope_ascends g graph resolved key

pub returns-clause-values : goal.returns-clause-values
returns-clause-values c = values_ascend
