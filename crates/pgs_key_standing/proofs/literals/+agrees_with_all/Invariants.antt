use Rattle.std.proofs.Common.{length}
use Rattle.pgs_key_standing.proofs.literals.+agrees_with_all.Given as goal

abbrev pub decreases-agrees_with_all : goal.decreases-agrees_with_all
decreases-agrees_with_all l = length l.others.now
