use Rattle.std.specs.Map.{keys_of}
use Rattle.pgs_base_keyed.proofs.Ordering.{InOrderBelow}
use Rattle.pgs_base_keyed.proofs.order.keys_ascend.Given as goal

abbrev pub invariant-loop-place : goal.invariant-loop-place
invariant-loop-place g l = InOrderBelow g.K.Ord.cmp (keys_of l.rows) l.place
