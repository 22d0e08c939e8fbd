use Rattle.pgs_base_keyed.proofs.Ordering.{InOrderBelow}
use Rattle.pgs_base_keyed.proofs.order.ascend.Given as goal

abbrev pub invariant-loop-place : goal.invariant-loop-place
invariant-loop-place g l = InOrderBelow g.K.Ord.cmp l.keys l.place
