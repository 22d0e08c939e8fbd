use Rattle.pgs_differences.proofs.Nearer.{shape_among, shape_least}
use Rattle.pgs_differences.proofs.laws.nearest_shape_is_least.Goals as goal

pub returns-clause-among : goal.returns-clause-among
returns-clause-among c = shape_among

pub returns-clause-least : goal.returns-clause-least
returns-clause-least c = shape_least
