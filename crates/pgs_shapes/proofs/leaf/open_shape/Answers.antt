use Rattle.pgs_shapes.proofs.Leaves.{open_meets}
use Rattle.pgs_shapes.proofs.leaf.open_shape.Goals as goal

pub returns : goal.returns
returns c = open_meets _ _ c.new.ensures c.new-2.ensures
