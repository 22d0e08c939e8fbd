use Rattle.std.proofs.Common.{refl}
use denote.Hole.Carrier.{hidden}
use Rattle.pgs_syntax.specs.declared.specification.Spec.TheBlock as block
use Rattle.pgs_syntax.proofs.samples.unions_and_options.Goals as goal

pub returns-clause-left_fits : goal.returns-clause-left_fits
unfolding block.hidden-the_row-Spec-0 block.hidden-the_row-Spec-1 hidden
returns-clause-left_fits c = refl

pub returns-clause-option_left_out : goal.returns-clause-option_left_out
unfolding block.hidden-the_row-Spec-0 block.hidden-the_row-Spec-1 hidden
returns-clause-option_left_out c = refl

pub returns-clause-option_taken : goal.returns-clause-option_taken
unfolding block.hidden-the_row-Spec-0 block.hidden-the_row-Spec-1 hidden
returns-clause-option_taken c = refl

pub returns-clause-option_alone : goal.returns-clause-option_alone
unfolding block.hidden-the_row-Spec-0 block.hidden-the_row-Spec-1 hidden
returns-clause-option_alone c = refl
