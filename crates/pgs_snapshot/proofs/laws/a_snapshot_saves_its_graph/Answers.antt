use Rattle.pgs_snapshot.proofs.Histories.{snapshot_saves}
use Rattle.pgs_snapshot.proofs.laws.a_snapshot_saves_its_graph.Goals as goal

pub returns : goal.returns
returns c = snapshot_saves
