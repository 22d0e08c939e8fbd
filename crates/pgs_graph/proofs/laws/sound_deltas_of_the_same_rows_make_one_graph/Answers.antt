use Rattle.pgs_graph.proofs.Deltas as deltas
use Rattle.pgs_graph.proofs.laws.sound_deltas_of_the_same_rows_make_one_graph.Goals as goal

pub returns : goal.returns
returns c = deltas.same_changed
