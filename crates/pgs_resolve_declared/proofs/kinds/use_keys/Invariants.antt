use Rattle.std.proofs.Common.{◌≡◌, ◌++◌, take}
use Rattle.std.specs.List.{flat_map}
use Rattle.pgs_resolve_declared.specs.Refused.{uses_in_key}
use Rattle.pgs_resolve_declared.proofs.kinds.use_keys.Given as goal

abbrev pub invariant-loop-key : goal.invariant-loop-key
invariant-loop-key l = l.uses.items ≡ l.fn.uses.items ++ flat_map uses_in_key (take l.key-index l.keys)
