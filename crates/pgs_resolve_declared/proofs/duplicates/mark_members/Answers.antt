use Rattle.std.proofs.Common.{refl}
use Rattle.pgs_resolve_declared.specs.Refused.{marks_of_member}
use Rattle.pgs_resolve_declared.proofs.Walks.{none_yet, more_of, all_of}
use Rattle.pgs_resolve_declared.proofs.duplicates.mark_members.Goals as goal

pub loop-member-init : goal.loop-member-init
loop-member-init c = none_yet c.args.marks.now.items

pub loop-member-preserved : goal.loop-member-preserved
loop-member-preserved c =
    more_of marks_of_member c.args.marks.now.items c.args.members.now c.loop-member.member-index c.member-item.result c.loop-member.marks.items c.mark_member.new.marks.items
    c.loop-member-test.true c.member-item.is c.loop-member.invariant c.in_ok-mark_member.ensures

pub returns : goal.returns
returns c =
    all_of marks_of_member c.args.marks.now.items c.args.members.now c.args.members.now c.loop-member.member-index c.loop-member.marks.items c.loop-member-test.false refl c.loop-member.invariant
