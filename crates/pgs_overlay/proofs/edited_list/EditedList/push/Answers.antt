use Rattle.std.proofs.Common.{refl, arith}
use Rattle.pgs_overlay.proofs.Standing.{built_on}
use Rattle.pgs_overlay.proofs.edited_list.EditedList.push.Goals as goal

pub returns : goal.returns
returns c xs stands long some =
    built_on xs c.args.self.now c.args.part c.args.count _ stands long some c.in_ok-push.ensures.items (omega (arith, c.in-Some.ensures)) refl
