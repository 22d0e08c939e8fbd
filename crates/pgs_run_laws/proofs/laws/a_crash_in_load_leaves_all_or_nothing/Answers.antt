use Rattle.pgs_run_laws.proofs.Crashed.{load_crashed}
use Rattle.pgs_run_laws.proofs.laws.a_crash_in_load_leaves_all_or_nothing.Goals as goal

pub returns : goal.returns
returns g c = λ text schema lost deeds old new fresh last crash.
    load_crashed g.W.World.view text schema lost deeds (g.V.World.view old) (g.V.World.view new) fresh last crash (g.met.V.World.timed old)
