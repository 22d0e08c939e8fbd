use Rattle.pgs_run_check_evolve.proofs.Safe.{kept_by}
use Rattle.pgs_run_check_evolve.proofs.laws.what_is_told_safe_keeps_graphs.Goals as goal

pub returns : goal.returns
returns c = kept_by
