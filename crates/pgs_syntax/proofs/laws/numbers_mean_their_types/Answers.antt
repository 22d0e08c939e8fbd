use Rattle.pgs_syntax.proofs.Named.{node_type_meant, edge_type_meant}
use Rattle.pgs_syntax.proofs.laws.numbers_mean_their_types.Goals as goal

pub returns-clause-nodes : goal.returns-clause-nodes
returns-clause-nodes c = node_type_meant

pub returns-clause-edges : goal.returns-clause-edges
returns-clause-edges c = edge_type_meant
