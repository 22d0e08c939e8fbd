use Rattle.std.proofs.Common.{refl}
use Rattle.pgs_resolve_declared.specs.Refused.{uses_in_member}
use Rattle.pgs_resolve_declared.proofs.Walks.{none_yet, more_of, all_of}
use Rattle.pgs_resolve_declared.proofs.kinds.use_members.Goals as goal

pub loop-member-init : goal.loop-member-init
loop-member-init c = none_yet c.args.uses.now.items

pub loop-member-preserved : goal.loop-member-preserved
loop-member-preserved c =
    more_of uses_in_member c.args.uses.now.items c.args.members.now c.loop-member.member-index c.member-item.result c.loop-member.uses.items c.use_member.new.uses.items
    c.loop-member-test.true c.member-item.is c.loop-member.invariant c.in_ok-use_member.ensures

pub returns : goal.returns
returns c =
    all_of uses_in_member c.args.uses.now.items c.args.members.now c.args.members.now c.loop-member.member-index c.loop-member.uses.items c.loop-member-test.false refl c.loop-member.invariant
