use Rattle.std.proofs.Common.{◌≡◌, ◌+◌, length}
use Rattle.pgs_key_standing.proofs.Demanded.{AreAny}
use Rattle.pgs_key_standing.proofs.reach.any_places.Given as goal

abbrev pub invariant-loop-left : goal.invariant-loop-left
invariant-loop-left l = record {
  count : length l.places.items + length l.left ≡ length l.kinds;
  any : AreAny l.places.items;
}

abbrev pub decreases-loop-left : goal.decreases-loop-left
decreases-loop-left l = length l.left
