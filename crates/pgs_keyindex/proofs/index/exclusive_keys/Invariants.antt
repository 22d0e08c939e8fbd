use Rattle.std.proofs.Common.{◌≡◌, take}
use Rattle.pgs_keyindex.specs.Standing.{exclusive_keys}
use Rattle.pgs_keyindex.proofs.index.exclusive_keys.Given as goal

abbrev pub invariant-loop-key : goal.invariant-loop-key
invariant-loop-key l = l.exclusive.items ≡ exclusive_keys (take l.key-index l.keys)
