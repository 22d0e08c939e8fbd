use Rattle.std.proofs.Common.{◌≡◌, ◌+◌, ◌++◌, List, Bool, drop, length}
use Rattle.pgs_resolve_keys.specs.Patterns.{Variable, number_of, path_atoms, places_of}
use Rattle.pgs_resolve_keys.specs.VariableTable.{Holds}
use Rattle.pgs_resolve_keys.proofs.patterns.push_paths.Given as goal

abbrev pub invariant-loop-path : goal.invariant-loop-path
invariant-loop-path l = record {
  at : l.place + length (places_of (drop l.path-index l.paths)) ≡ length (places_of l.paths);
  atoms : (held : List (Variable × Bool)) → Holds held l.variables →
      l.atoms.items ++ path_atoms l.numbering (number_of held) l.place (drop l.path-index l.paths)
      ≡ l.fn.atoms.items ++ path_atoms l.numbering (number_of held) 0 l.paths;
}
