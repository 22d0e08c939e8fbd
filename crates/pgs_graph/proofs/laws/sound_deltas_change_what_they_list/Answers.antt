use Rattle.pgs_graph.proofs.Deltas as deltas
use Rattle.pgs_graph.proofs.laws.sound_deltas_change_what_they_list.Goals as goal

pub returns-clause-nodes : goal.returns-clause-nodes
returns-clause-nodes c = deltas.node_after

pub returns-clause-edges : goal.returns-clause-edges
returns-clause-edges c = deltas.edge_after
