use Rattle.pgs_run_laws.proofs.Compared.{compared}
use Rattle.pgs_run_laws.proofs.laws.what_is_contained_is_kept.Goals as goal

pub returns : goal.returns
returns g c = λ input lost old new. compared c.what_asks_no_more_is_kept.ensures input lost (g.W.World.view old) (g.W.World.view new)
