use Rattle.std.proofs.Common.{take}
use Rattle.pgs_key_standing.specs.Demands.{HaveSmall}
use Rattle.pgs_key_standing.proofs.places.have_small.Given as goal

abbrev pub invariant-loop-shape : goal.invariant-loop-shape
invariant-loop-shape l = HaveSmall (take l.shape-index l.places)
