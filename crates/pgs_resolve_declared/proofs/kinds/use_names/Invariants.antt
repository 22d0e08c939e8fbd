use Rattle.std.proofs.Common.{◌≡◌, ◌++◌, take}
use Rattle.pgs_resolve_declared.specs.Refused.{uses_as}
use Rattle.pgs_resolve_declared.proofs.kinds.use_names.Given as goal

abbrev pub invariant-loop-name : goal.invariant-loop-name
invariant-loop-name l = l.uses.items ≡ l.fn.uses.items ++ uses_as l.of_edge (take l.name-index l.names)
