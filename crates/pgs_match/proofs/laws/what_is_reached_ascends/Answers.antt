use Rattle.pgs_match.proofs.FirstOfMatches.{reached_ascends}
use Rattle.pgs_match.proofs.laws.what_is_reached_ascends.Goals as goal

pub returns : goal.returns
returns c = reached_ascends
