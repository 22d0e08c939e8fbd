use Rattle.pgs_conform.proofs.Compared.{node_same, edge_same, typed_node_same, typed_edge_same}
use Rattle.pgs_conform.proofs.laws.types_see_no_values.Goals as goal

pub returns-clause-nodes : goal.returns-clause-nodes
returns-clause-nodes c = λ resolved p q same number. node_same resolved p q same number

pub returns-clause-edges : goal.returns-clause-edges
returns-clause-edges c = λ resolved t u same number. edge_same resolved t u same number

pub returns-clause-typed_nodes : goal.returns-clause-typed_nodes
returns-clause-typed_nodes c = λ resolved p q same. typed_node_same resolved p q same

pub returns-clause-typed_edges : goal.returns-clause-typed_edges
returns-clause-typed_edges c = λ resolved t u same. typed_edge_same resolved t u same
