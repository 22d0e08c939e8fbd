use Rattle.pgs_conform.specs.Shapes.{in_triple, in_some_triple}
use Rattle.pgs_standing.specs.Example.{by_edges}
use Rattle.pgs_standing.proofs.Parted.{GoesOn}
use Rattle.pgs_standing.proofs.apart.triples_apart.Given as goal

abbrev pub invariant-loop-shapes : goal.invariant-loop-shapes
invariant-loop-shapes l = GoesOn by_edges in_triple (in_some_triple l.base) l.own l.shapes-index l.fits
