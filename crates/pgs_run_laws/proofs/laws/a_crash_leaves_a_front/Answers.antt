use Rattle.pgs_run_laws.proofs.Crashed.{crashed}
use Rattle.pgs_run_laws.proofs.laws.a_crash_leaves_a_front.Goals as goal

pub returns : goal.returns
returns g c = λ it epoch deed deeds old new fresh last crash stands.
    crashed g.W.World.view it epoch deed deeds (g.V.World.view old) (g.V.World.view new) fresh last crash stands (g.met.V.World.timed old)
