use Rattle.std.proofs.Common.{refl}
use denote.Hole.Carrier.{hidden}
use Rattle.pgs_syntax.specs.declared.specification.Spec.TheBlock as block
use Rattle.pgs_syntax.proofs.samples.types_in_patterns.Goals as goal

pub returns-clause-fitting_edges : goal.returns-clause-fitting_edges
unfolding block.hidden-the_row-Spec-0 hidden
returns-clause-fitting_edges c = refl

pub returns-clause-fitting_nodes : goal.returns-clause-fitting_nodes
unfolding block.hidden-the_row-Spec-0 hidden
returns-clause-fitting_nodes c = refl
