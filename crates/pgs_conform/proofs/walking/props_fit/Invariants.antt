use Rattle.std.proofs.Common.{◌+◌, length}
use Rattle.pgs_conform.proofs.PropWalk.{PropsLeft}
use Rattle.pgs_conform.proofs.walking.props_fit.Given as goal

abbrev pub invariant-loop-keys_left : goal.invariant-loop-keys_left
invariant-loop-keys_left l = PropsLeft l.keys l.more l.props l.keys_left l.left

abbrev pub decreases-loop-keys_left : goal.decreases-loop-keys_left
decreases-loop-keys_left l = length l.keys_left + length l.left
