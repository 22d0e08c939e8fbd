use Rattle.std.proofs.Common.{◌++◌, take}
use Rattle.pgs_key_standing.specs.Demands.{AreSame}
use Rattle.pgs_key_standing.proofs.places.push_copies.Given as goal

abbrev pub invariant-loop-shape : goal.invariant-loop-shape
invariant-loop-shape l = AreSame l.all.items (l.fn.all.items ++ take l.shape-index l.shapes)
