use Rattle.std.proofs.Common.{arith}
use Rattle.pgs_resolve.proofs.Once.{more_once}
use Rattle.pgs_resolve.proofs.guard.list_members.Goals as goal

pub loop-member-preserved : goal.loop-member-preserved
loop-member-preserved c before these =
    more_once before c.args.members.now _ _ c.loop-member.names _ (omega arith) c.member-item.is (c.loop-member.invariant before these) c.in_ok-list_member.ensures
