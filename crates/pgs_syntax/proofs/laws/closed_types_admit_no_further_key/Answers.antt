use Rattle.std.proofs.Common.{length}
use Rattle.std.proofs.lemmas.Bool.{not-true}
use Rattle.pgs_syntax.specs.declared.specification.Leaf.TheVariants.{Named}
use Rattle.pgs_syntax.specs.declared.specification.Spec.{Word}
use Rattle.pgs_syntax.proofs.Closed.{edge_absent, spec_absent}
use Rattle.pgs_syntax.proofs.laws.closed_types_admit_no_further_key.Goals as goal

pub returns-clause-nodes : goal.returns-clause-nodes
returns-clause-nodes c = λ resolved spec p key closed fits unnamed. spec_absent key resolved spec closed unnamed p fits

pub returns-clause-node_types : goal.returns-clause-node_types
returns-clause-node_types c = λ resolved number p key closed fits unnamed. spec_absent key resolved (Word (Named number)) closed unnamed p fits

pub returns-clause-edge_types : goal.returns-clause-edge_types
returns-clause-edge_types c = λ resolved number t key closed fits unnamed.
    edge_absent key resolved (length resolved.edges) number (not-true _ closed) unnamed t fits
