use Rattle.pgs_saved_graph.proofs.Steps.{staged_small}
use Rattle.pgs_saved_graph.proofs.laws.a_staged_graph_has_small_rows.Goals as goal

pub returns : goal.returns
returns c = staged_small
