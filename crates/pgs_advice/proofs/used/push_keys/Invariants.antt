use Rattle.std.proofs.Common.{◌≡◌, ◌++◌, take}
use Rattle.std.specs.List.{flat_map}
use Rattle.pgs_advice.specs.Used.{named_by_key}
use Rattle.pgs_advice.proofs.used.push_keys.Given as goal

abbrev pub invariant-loop-key : goal.invariant-loop-key
invariant-loop-key l = l.types.items ≡ l.fn.types.items ++ flat_map named_by_key (take l.key-index l.keys)
