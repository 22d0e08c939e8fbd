use Rattle.pgs_run_laws.proofs.AddUp.{runs_add_up}
use Rattle.pgs_run_laws.proofs.Ended.{add_up}
use Rattle.pgs_run_laws.proofs.laws.runs_add_up.Goals as goal

pub returns-clause-any : goal.returns-clause-any
returns-clause-any g c = λ steps was first last holds ran. add_up g.W.World.view steps was first last holds ran

pub returns-clause-done : goal.returns-clause-done
returns-clause-done g c = runs_add_up g.W.World.view
