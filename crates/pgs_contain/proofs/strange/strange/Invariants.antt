use Rattle.pgs_contain.proofs.Letters.{IsMaking}
use Rattle.pgs_contain.proofs.strange.strange.Given as goal

abbrev pub invariant-loop-most : goal.invariant-loop-most
invariant-loop-most l = IsMaking l.bytes.items l.names l.most

abbrev pub decreases-loop-most : goal.decreases-loop-most
decreases-loop-most l = l.most
