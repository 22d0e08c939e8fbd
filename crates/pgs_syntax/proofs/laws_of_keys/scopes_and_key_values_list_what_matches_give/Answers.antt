use Rattle.pgs_syntax.specs.KeyValues.{key_values}
use Rattle.pgs_syntax.proofs.Assigned.{value_found, value_given}
use Rattle.pgs_syntax.proofs.Members.{among, is_among, in_scope_found, in_scope_given}
use Rattle.pgs_syntax.proofs.laws_of_keys.scopes_and_key_values_list_what_matches_give.Goals as goal

pub returns-clause-scope : goal.returns-clause-scope
returns-clause-scope c = λ resolved g key elem. (
  in_scope_found resolved g key elem,
  λ any. in_scope_given resolved g key elem any.0 any.1 any.2,
)

pub returns-clause-values : goal.returns-clause-values
returns-clause-values c = λ resolved g key elem tuple. (
  λ h. value_found resolved g key elem tuple (is_among tuple (key_values resolved g key elem) h),
  λ any. among tuple (key_values resolved g key elem) (value_given resolved g key elem tuple any.0 any.1 any.2 any.3),
)
