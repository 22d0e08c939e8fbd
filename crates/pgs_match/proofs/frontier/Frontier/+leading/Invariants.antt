use Rattle.std.proofs.Common.{length}
use Rattle.pgs_match.proofs.frontier.Frontier.+leading.Given as goal

abbrev pub decreases-lead_on : goal.decreases-lead_on
decreases-lead_on g l = length l.ways.now
