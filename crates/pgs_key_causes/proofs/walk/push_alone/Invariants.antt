use Rattle.std.proofs.Common.{◌≡◌}
use Rattle.pgs_key_causes.specs.Walk.{with_own, is_alone}
use Rattle.pgs_key_causes.proofs.walk.push_alone.Given as goal

abbrev pub invariant-loop-place : goal.invariant-loop-place
invariant-loop-place l = l.visits.items ≡ with_own l.places (is_alone l.places) l.fn.visits.items l.place
