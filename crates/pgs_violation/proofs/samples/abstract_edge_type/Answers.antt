use Rattle.std.proofs.Common.{refl}
use denote.Hole.Carrier.{hidden}
use Rattle.pgs_syntax.specs.declared.specification.Spec.TheBlock as block
use Rattle.pgs_violation.proofs.samples.abstract_edge_type.Goals as goal

pub returns : goal.returns
unfolding block.hidden-the_row-Spec-0 hidden
returns c = refl
