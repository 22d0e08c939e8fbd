use Rattle.std.proofs.Common.{◌≡◌, take}
use Rattle.pgs_overlay.proofs.changes.key_set.Given as goal

abbrev pub invariant-loop-key : goal.invariant-loop-key
invariant-loop-key g l = l.keys.keys ≡ take l.key-index l.before
