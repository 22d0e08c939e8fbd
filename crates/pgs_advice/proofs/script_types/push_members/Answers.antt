use Rattle.pgs_advice.proofs.Outside.{more_members}
use Rattle.pgs_advice.proofs.script_types.push_members.Goals as goal

pub loop-member-preserved : goal.loop-member-preserved
loop-member-preserved c =
    more_members c.args.used.now c.args.unused.now.items c.args.members.now c.loop-member.member-index c.member-item.result c.loop-member.unused.items c.push_member.new.unused.items
    c.loop-member-test.true c.member-item.is c.loop-member.invariant c.in_ok-push_member.ensures
