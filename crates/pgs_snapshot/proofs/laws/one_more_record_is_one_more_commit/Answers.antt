use Rattle.pgs_snapshot.proofs.Histories.{one_more_saves}
use Rattle.pgs_snapshot.proofs.laws.one_more_record_is_one_more_commit.Goals as goal

pub returns : goal.returns
returns c = one_more_saves
