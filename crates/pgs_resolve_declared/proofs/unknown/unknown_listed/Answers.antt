use Rattle.std.proofs.Common.{arith, refl}
use Rattle.pgs_resolve_declared.specs.Refused.{unknown_member}
use Rattle.pgs_resolve_declared.proofs.Firsts.{first_at}
use Rattle.pgs_resolve_declared.proofs.unknown.unknown_listed.Goals as goal

pub returns-in-Some : goal.returns-in-Some
returns-in-Some c script are =
    first_at (unknown_member script) c.args.members.now _ _ _ _ (omega arith) c.member-item.is refl
    (c.loop-member.invariant script are) (c.in-Some.ensures script are)
