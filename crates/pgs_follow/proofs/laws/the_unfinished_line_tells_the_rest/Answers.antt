use Rattle.pgs_follow.proofs.Following.{same_later}
use Rattle.pgs_follow.proofs.laws.the_unfinished_line_tells_the_rest.Goals as goal

pub returns : goal.returns
returns c = same_later
