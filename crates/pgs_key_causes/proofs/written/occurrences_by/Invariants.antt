use Rattle.std.proofs.Common.{◌≡◌, Bool, List, map, take}
use Rattle.pgs_resolve_keys.specs.Patterns.{Variable}
use Rattle.pgs_resolve_keys.specs.Placed.{placed}
use Rattle.pgs_resolve_keys.specs.VariableTable.{Holds}
use Rattle.pgs_key_causes.specs.Fronts.{occurrences_by}
use Rattle.pgs_key_causes.proofs.written.occurrences_by.Given as goal

abbrev pub invariant-loop-number : goal.invariant-loop-number
invariant-loop-number l =
    (held : List (Variable × Bool)) → Holds held l.variables → l.occurrences.items ≡ occurrences_by held (map placed (take l.number l.places))
