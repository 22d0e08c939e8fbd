use Rattle.pgs_snapshot.proofs.Histories.{first_saves}
use Rattle.pgs_snapshot.proofs.laws.a_first_store_saves_the_empty_graph.Goals as goal

pub returns : goal.returns
returns c = first_saves
