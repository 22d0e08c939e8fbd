use Rattle.std.proofs.Common.{◌≡◌, []}
use Rattle.pgs_key_causes.specs.Walk.{with_own, is_start}
use Rattle.pgs_key_causes.proofs.walk.start.Given as goal

abbrev pub invariant-loop-place : goal.invariant-loop-place
invariant-loop-place l = l.visits.items ≡ with_own l.places (is_start l.places) [] l.place
