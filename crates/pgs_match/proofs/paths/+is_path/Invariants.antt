use Rattle.std.proofs.Common.{length}
use Rattle.pgs_match.proofs.paths.+is_path.Given as goal

abbrev pub decreases-is_path : goal.decreases-is_path
decreases-is_path l = length l.ways.now
