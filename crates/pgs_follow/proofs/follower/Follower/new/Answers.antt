use Rattle.pgs_follow.proofs.Standing.{stands_at_first}
use Rattle.pgs_follow.proofs.follower.Follower.new.Goals as goal

pub returns-clause-nothing : goal.returns-clause-nothing
returns-clause-nothing c = stands_at_first _ c.new.ensures.followed c.new-2.ensures.items
