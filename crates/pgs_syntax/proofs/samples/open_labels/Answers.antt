use Rattle.std.proofs.Common.{refl}
use denote.Hole.Carrier.{hidden}
use Rattle.pgs_syntax.specs.declared.specification.Spec.TheBlock as block
use Rattle.pgs_syntax.proofs.samples.open_labels.Goals as goal

pub returns-clause-further_label : goal.returns-clause-further_label
unfolding block.hidden-the_row-Spec-0 hidden
returns-clause-further_label c = refl

pub returns-clause-label_missing : goal.returns-clause-label_missing
unfolding block.hidden-the_row-Spec-0 hidden
returns-clause-label_missing c = refl
