use Rattle.pgs_run_laws.proofs.NoDashes.{no_dashes}
use Rattle.pgs_run_laws.proofs.laws.no_dashes.Goals as goal

pub returns : goal.returns
returns c = no_dashes
