use Rattle.std.proofs.Common.{take}
use Rattle.pgs_contain.specs.Frames.{AreInOthers}
use Rattle.pgs_contain.proofs.shapes.outside_of_shapes.Given as goal

abbrev pub invariant-loop-shape : goal.invariant-loop-shape
invariant-loop-shape l = AreInOthers (take l.shape-index l.shapes) l.others
