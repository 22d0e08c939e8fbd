use Rattle.pgs_sessions_machine.proofs.Alike.{runs_as_alone}
use Rattle.pgs_sessions_machine.proofs.laws.a_session_runs_as_alone.Goals as goal

pub returns : goal.returns
returns c = runs_as_alone
