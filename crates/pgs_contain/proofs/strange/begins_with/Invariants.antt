use Rattle.std.proofs.Common.{◌≡◌, length}
use Rattle.pgs_contain.specs.Known.{begins_with}
use Rattle.pgs_contain.proofs.strange.begins_with.Given as goal

abbrev pub invariant-loop-left : goal.invariant-loop-left
invariant-loop-left l = begins_with l.bytes l.name ≡ begins_with l.left l.rest

abbrev pub decreases-loop-left : goal.decreases-loop-left
decreases-loop-left l = length l.left
