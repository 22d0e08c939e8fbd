use Rattle.std.proofs.Common.{◌≡◌, [], map, take}
use Rattle.pgs_resolve.proofs.FirstBad.{bad_keys}
use Rattle.pgs_resolve.proofs.key_refusals.first_bad_of.Given as goal

abbrev pub invariant-loop-place : goal.invariant-loop-place
invariant-loop-place l = bad_keys 1 (map (λ key. key.now) (take l.place l.keys)) ≡ []
