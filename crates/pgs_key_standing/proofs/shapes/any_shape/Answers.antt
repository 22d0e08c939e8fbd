use Rattle.pgs_key_standing.proofs.Single.{in_any}
use Rattle.pgs_key_standing.proofs.shapes.any_shape.Goals as goal

pub returns : goal.returns
returns c = λ p. in_any c.new.result c.new-2.result c.new.ensures c.new-2.ensures p
