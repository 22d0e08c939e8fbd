use Rattle.pgs_snapshot.proofs.Histories.{commits_within}
use Rattle.pgs_snapshot.proofs.laws.commits_are_bounded.Goals as goal

pub returns : goal.returns
returns c = commits_within
