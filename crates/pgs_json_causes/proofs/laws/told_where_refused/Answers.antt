use Rattle.pgs_json_causes.proofs.TreeLaw.{tree_law}
use Rattle.pgs_json_causes.proofs.laws.told_where_refused.Goals as goal

pub returns : goal.returns
returns c = tree_law
