use Rattle.std.proofs.Common.{refl}
use denote.Hole.Carrier.{hidden}
use Rattle.pgs_syntax.specs.declared.specification.Spec.TheBlock as block
use Rattle.pgs_syntax.proofs.samples.edge_unions.Goals as goal

pub returns-clause-by_label : goal.returns-clause-by_label
unfolding block.hidden-the_row-Spec-0 hidden
returns-clause-by_label c = refl

pub returns-clause-by_type : goal.returns-clause-by_type
unfolding block.hidden-the_row-Spec-0 hidden
returns-clause-by_type c = refl

pub returns-clause-without_its_end : goal.returns-clause-without_its_end
unfolding block.hidden-the_row-Spec-0 hidden
returns-clause-without_its_end c = refl

pub returns-clause-neither : goal.returns-clause-neither
unfolding block.hidden-the_row-Spec-0 hidden
returns-clause-neither c = refl
