use Rattle.std.proofs.Common.{refl}
use denote.Hole.Carrier.{hidden}
use Rattle.pgs_syntax.specs.declared.specification.Spec.TheBlock as block
use Rattle.pgs_syntax.proofs.samples.social_types.Goals as goal

pub returns-clause-person_typed : goal.returns-clause-person_typed
unfolding block.hidden-the_row-Spec-0 hidden
returns-clause-person_typed c = refl

pub returns-clause-employee_typed : goal.returns-clause-employee_typed
unfolding block.hidden-the_row-Spec-0 hidden
returns-clause-employee_typed c = refl

pub returns-clause-salary_needs_label : goal.returns-clause-salary_needs_label
unfolding block.hidden-the_row-Spec-0 hidden
returns-clause-salary_needs_label c = refl
