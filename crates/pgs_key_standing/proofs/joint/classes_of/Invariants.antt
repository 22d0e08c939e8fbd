use Rattle.std.proofs.Common.{◌≡◌, length}
use Rattle.pgs_key_standing.specs.Joint.{classes_after, numbers}
use Rattle.pgs_key_standing.proofs.joint.classes_of.Given as goal

abbrev pub invariant-loop-left : goal.invariant-loop-left
invariant-loop-left l = classes_after l.all l.classes.items l.left ≡ classes_after l.all (numbers l.pattern.edge_vars) l.all

abbrev pub decreases-loop-left : goal.decreases-loop-left
decreases-loop-left l = length l.left
