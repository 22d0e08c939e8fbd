use Rattle.std.proofs.Common.{refl}
use denote.Hole.Carrier.{hidden}
use Rattle.pgs_syntax.specs.declared.specification.Spec.TheBlock as block
use Rattle.pgs_violation.proofs.samples.limits_before_types.Goals as goal

pub returns-clause-within : goal.returns-clause-within
unfolding block.hidden-the_row-Spec-0 hidden
returns-clause-within c = refl
