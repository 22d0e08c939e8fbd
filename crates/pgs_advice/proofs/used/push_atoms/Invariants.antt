use Rattle.std.proofs.Common.{◌≡◌, ◌++◌, take}
use Rattle.std.specs.List.{filter_map}
use Rattle.pgs_advice.specs.Used.{type_at}
use Rattle.pgs_advice.proofs.used.push_atoms.Given as goal

abbrev pub invariant-loop-atom : goal.invariant-loop-atom
invariant-loop-atom l = l.types.items ≡ l.fn.types.items ++ filter_map type_at (take l.atom-index l.atoms)
