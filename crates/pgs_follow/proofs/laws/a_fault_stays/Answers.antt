use Rattle.pgs_follow.proofs.Following.{fault_stays}
use Rattle.pgs_follow.proofs.laws.a_fault_stays.Goals as goal

pub returns : goal.returns
returns c = fault_stays
