use Rattle.std.proofs.Common.{refl}
use denote.Hole.Carrier.{hidden}
use Rattle.pgs_syntax.specs.declared.specification.Spec.TheBlock as block
use Rattle.pgs_syntax.proofs.samples.shared_keys.Goals as goal

pub returns-clause-first_kind : goal.returns-clause-first_kind
unfolding block.hidden-the_row-Spec-0 hidden
returns-clause-first_kind c = refl

pub returns-clause-other_kind : goal.returns-clause-other_kind
unfolding block.hidden-the_row-Spec-0 hidden
returns-clause-other_kind c = refl
