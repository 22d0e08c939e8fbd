use Rattle.std.proofs.Common.{◌≡◌, map, drop}
use Rattle.std.specs.List.{find}
use Rattle.pgs_resolve_keys.specs.Patterns.{called, is_same, variables_at}
use Rattle.pgs_resolve_keys.specs.Placed.{placed}
use Rattle.pgs_resolve_keys.proofs.variables.kind_of.Given as goal

abbrev pub invariant-loop-place : goal.invariant-loop-place
invariant-loop-place l =
    find (is_same (called l.x)) (variables_at 0 (map placed l.places))
    ≡ find (is_same (called l.x)) (variables_at l.place-index (map placed (drop l.place-index l.places)))
