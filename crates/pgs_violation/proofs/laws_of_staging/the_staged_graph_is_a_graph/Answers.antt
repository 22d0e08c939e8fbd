use Rattle.pgs_violation.proofs.StagedGraph.{staged_graph}
use Rattle.pgs_violation.proofs.laws_of_staging.the_staged_graph_is_a_graph.Goals as goal

pub returns : goal.returns
returns c = staged_graph
