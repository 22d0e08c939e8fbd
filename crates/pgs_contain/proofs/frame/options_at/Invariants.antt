use Rattle.std.proofs.Common.{◌≡◌, length}
use Rattle.pgs_conform.specs.JoinedOptions.{options_at}
use Rattle.pgs_contain.proofs.frame.options_at.Given as goal

abbrev pub invariant-loop-left : goal.invariant-loop-left
invariant-loop-left l = options_at l.keys l.more l.name ≡ options_at l.left l.more l.name

abbrev pub decreases-loop-left : goal.decreases-loop-left
decreases-loop-left l = length l.left
