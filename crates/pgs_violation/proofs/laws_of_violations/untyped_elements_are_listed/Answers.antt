use Rattle.pgs_violation.proofs.Carried.{untyped_node_found, untyped_node_given, untyped_edge_found, untyped_edge_given}
use Rattle.pgs_violation.proofs.laws_of_violations.untyped_elements_are_listed.Goals as goal

pub returns-clause-nodes : goal.returns-clause-nodes
returns-clause-nodes c = λ resolved g node. (untyped_node_found resolved g node, untyped_node_given resolved g node)

pub returns-clause-edges : goal.returns-clause-edges
returns-clause-edges c = λ resolved g edge. (untyped_edge_found resolved g edge, untyped_edge_given resolved g edge)
