use Rattle.std.proofs.Common.{refl}
use denote.Hole.Carrier.{hidden}
use Rattle.pgs_syntax.specs.declared.specification.Spec.TheBlock as block
use Rattle.pgs_syntax.proofs.samples.closedness.Goals as goal

pub returns-clause-employee_closed : goal.returns-clause-employee_closed
unfolding block.hidden-the_row-Spec-0 hidden
returns-clause-employee_closed c = refl

pub returns-clause-own_key : goal.returns-clause-own_key
unfolding block.hidden-the_row-Spec-0 hidden
returns-clause-own_key c = refl

pub returns-clause-parents_key : goal.returns-clause-parents_key
unfolding block.hidden-the_row-Spec-0 hidden
returns-clause-parents_key c = refl

pub returns-clause-other_key : goal.returns-clause-other_key
unfolding block.hidden-the_row-Spec-0 hidden
returns-clause-other_key c = refl
