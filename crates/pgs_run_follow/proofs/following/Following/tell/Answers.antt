use Rattle.std.proofs.Common.{sym}
use Rattle.pgs_run_follow.proofs.following.Following.tell.Goals as goal

pub returns-clause-ends : goal.returns-clause-ends
returns-clause-ends g c = rw (← c.self.view_is) (c.in-Ok.ensures.puts.shows, sym (c.followed_status.ensures c.args.rest))
