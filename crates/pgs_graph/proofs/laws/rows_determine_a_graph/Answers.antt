use Rattle.pgs_graph.proofs.Deltas as deltas
use Rattle.pgs_graph.proofs.laws.rows_determine_a_graph.Goals as goal

pub returns : goal.returns
returns c = deltas.same_graph
