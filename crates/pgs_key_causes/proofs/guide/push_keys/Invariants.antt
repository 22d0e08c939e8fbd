use Rattle.std.proofs.Common.{◌≡◌, ◌++◌, map, take}
use Rattle.pgs_key_causes.proofs.guide.push_keys.Given as goal

abbrev pub invariant-loop-key : goal.invariant-loop-key
invariant-loop-key l = map (λ key. key.now) l.keys.items ≡ map (λ key. key.now) l.fn.keys.items ++ take l.key-index l.written
