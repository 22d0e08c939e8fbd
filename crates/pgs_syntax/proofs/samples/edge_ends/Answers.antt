use Rattle.std.proofs.Common.{refl}
use denote.Hole.Carrier.{hidden}
use Rattle.pgs_syntax.specs.declared.specification.Spec.TheBlock as block
use Rattle.pgs_syntax.proofs.samples.edge_ends.Goals as goal

pub returns-clause-edge_typed : goal.returns-clause-edge_typed
unfolding block.hidden-the_row-Spec-0 hidden
returns-clause-edge_typed c = refl

pub returns-clause-edge_untyped : goal.returns-clause-edge_untyped
unfolding block.hidden-the_row-Spec-0 hidden
returns-clause-edge_untyped c = refl
