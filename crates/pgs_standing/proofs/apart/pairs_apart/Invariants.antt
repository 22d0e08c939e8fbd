use Rattle.pgs_conform.specs.Shapes.{in_shape, in_some}
use Rattle.pgs_standing.specs.Example.{by_nodes}
use Rattle.pgs_standing.proofs.Parted.{GoesOn}
use Rattle.pgs_standing.proofs.apart.pairs_apart.Given as goal

abbrev pub invariant-loop-shape : goal.invariant-loop-shape
invariant-loop-shape l = GoesOn by_nodes in_shape (in_some l.base) l.own l.shape-index l.fits
