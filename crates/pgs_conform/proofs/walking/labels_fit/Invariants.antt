use Rattle.std.proofs.Common.{length}
use Rattle.pgs_conform.proofs.LabelWalk.{LabelsLeft}
use Rattle.pgs_conform.proofs.walking.labels_fit.Given as goal

abbrev pub invariant-loop-asked_left : goal.invariant-loop-asked_left
invariant-loop-asked_left l = LabelsLeft l.asked l.more l.labels l.asked_left l.left

abbrev pub decreases-loop-asked_left : goal.decreases-loop-asked_left
decreases-loop-asked_left l = length l.left
