use Rattle.pgs_resolve.proofs.Named.{nodes_kept, edges_kept}
use Rattle.pgs_resolve.proofs.laws.no_listed_type_is_dropped.Goals as goal

pub returns-clause-nodes : goal.returns-clause-nodes
returns-clause-nodes c = nodes_kept

pub returns-clause-edges : goal.returns-clause-edges
returns-clause-edges c = edges_kept
