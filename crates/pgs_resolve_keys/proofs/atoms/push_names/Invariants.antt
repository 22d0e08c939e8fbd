use Rattle.std.proofs.Common.{◌≡◌, ◌++◌, map, take}
use Rattle.pgs_resolve_keys.specs.Patterns.{name_atom}
use Rattle.pgs_resolve_keys.proofs.atoms.push_names.Given as goal

abbrev pub invariant-loop-name : goal.invariant-loop-name
invariant-loop-name l = l.atoms.items ≡ l.fn.atoms.items ++ map (name_atom l.numbering l.is_edge l.var) (take l.name-index l.names)
