use Rattle.std.proofs.Common.{length}
use Rattle.pgs_match.proofs.search.Search.+lead_back.Given as goal

abbrev pub decreases-lead_back : goal.decreases-lead_back
decreases-lead_back g l = length l.plan.now
