use Rattle.std.proofs.Common.{length}
use Rattle.pgs_match.proofs.paths.+end_var.Given as goal

abbrev pub decreases-end_var : goal.decreases-end_var
decreases-end_var l = length l.ways.now
