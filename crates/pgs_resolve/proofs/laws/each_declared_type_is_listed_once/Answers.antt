use Rattle.pgs_resolve.proofs.Refusing.{resolved_only}
use Rattle.pgs_resolve.proofs.Unrefused.{nodes_listed, edges_listed}
use Rattle.pgs_resolve.proofs.laws.each_declared_type_is_listed_once.Goals as goal

pub returns-clause-nodes : goal.returns-clause-nodes
returns-clause-nodes c = λ script schema ok. nodes_listed script (resolved_only script schema ok).0

pub returns-clause-edges : goal.returns-clause-edges
returns-clause-edges c = λ script schema ok. edges_listed script (resolved_only script schema ok).0
