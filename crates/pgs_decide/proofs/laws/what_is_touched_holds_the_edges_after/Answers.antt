use Rattle.pgs_decide.proofs.After.{edges_after_touched}
use Rattle.pgs_decide.proofs.laws.what_is_touched_holds_the_edges_after.Goals as goal

pub returns : goal.returns
returns c = edges_after_touched
