use Rattle.std.proofs.Common.{refl}
use denote.Hole.Carrier.{hidden}
use Rattle.pgs_syntax.specs.declared.specification.Spec.TheBlock as block
use Rattle.pgs_syntax.proofs.samples.heirs.Goals as goal

pub returns-clause-heir_typed : goal.returns-clause-heir_typed
unfolding block.hidden-the_row-Spec-0 hidden
returns-clause-heir_typed c = refl

pub returns-clause-parent_closed : goal.returns-clause-parent_closed
unfolding block.hidden-the_row-Spec-0 hidden
returns-clause-parent_closed c = refl
