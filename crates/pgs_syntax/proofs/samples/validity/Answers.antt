use Rattle.std.proofs.Common.{refl}
use denote.Hole.Carrier.{hidden}
use Rattle.pgs_syntax.specs.declared.specification.Spec.TheBlock as block
use Rattle.pgs_syntax.proofs.samples.validity.Goals as goal

pub returns-clause-valid_social : goal.returns-clause-valid_social
unfolding block.hidden-the_row-Spec-0 hidden
returns-clause-valid_social c = refl

pub returns-clause-valid_acquaintance : goal.returns-clause-valid_acquaintance
unfolding block.hidden-the_row-Spec-0 hidden
returns-clause-valid_acquaintance c = refl

pub returns-clause-too_early : goal.returns-clause-too_early
unfolding block.hidden-the_row-Spec-0 hidden
returns-clause-too_early c = refl

pub returns-clause-valid_ties : goal.returns-clause-valid_ties
unfolding block.hidden-the_row-Spec-0 hidden
returns-clause-valid_ties c = refl

pub returns-clause-valid_mails : goal.returns-clause-valid_mails
unfolding block.hidden-the_row-Spec-0 hidden
returns-clause-valid_mails c = refl
