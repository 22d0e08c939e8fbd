use Rattle.pgs_snapshot.proofs.Histories.{one_more_schema_saves}
use Rattle.pgs_snapshot.proofs.laws.one_more_schema_is_in_force.Goals as goal

pub returns : goal.returns
returns c = one_more_schema_saves
