use Rattle.pgs_standing.proofs.Shared.{any_inside}
use Rattle.pgs_standing.proofs.standing.any_shape.Goals as goal

pub returns : goal.returns
returns c = any_inside c.new.result c.new-2.result c.new.ensures c.new-2.ensures
