use Rattle.std.proofs.Common.{length}
use Rattle.pgs_json.proofs.kind.+kind_at.Given as goal

abbrev pub decreases-kind_at : goal.decreases-kind_at
decreases-kind_at l = length l.kinds.now
