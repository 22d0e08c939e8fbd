use Rattle.std.proofs.Common.{◌≡◌, length}
use Rattle.pgs_key_standing.specs.Placed.{ends_of}
use Rattle.pgs_key_standing.proofs.joint.ends_of.Given as goal

abbrev pub invariant-loop-left : goal.invariant-loop-left
invariant-loop-left l = ends_of l.left l.edge ≡ ends_of l.atoms l.edge

abbrev pub decreases-loop-left : goal.decreases-loop-left
decreases-loop-left l = length l.left
