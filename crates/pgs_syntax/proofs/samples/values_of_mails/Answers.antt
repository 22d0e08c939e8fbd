use Rattle.std.proofs.Common.{refl}
use denote.Hole.Carrier.{hidden}
use Rattle.pgs_syntax.specs.declared.specification.Spec.TheBlock as block
use Rattle.pgs_syntax.proofs.samples.values_of_mails.Goals as goal

pub returns-clause-mail_scope : goal.returns-clause-mail_scope
unfolding block.hidden-the_row-Spec-0 hidden
returns-clause-mail_scope c = refl

pub returns-clause-mail_value : goal.returns-clause-mail_value
unfolding block.hidden-the_row-Spec-0 hidden
returns-clause-mail_value c = refl
