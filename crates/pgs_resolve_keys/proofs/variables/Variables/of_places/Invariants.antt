use Rattle.std.proofs.Common.{map, take}
use Rattle.std.specs.List.{find, fold}
use Rattle.std.specs.Option.{option_to_list}
use Rattle.pgs_resolve_keys.specs.Patterns.{called, is_same, variables_at, with_variable}
use Rattle.pgs_resolve_keys.specs.Placed.{placed}
use Rattle.pgs_resolve_keys.specs.VariableTable.{Holds}
use Rattle.pgs_resolve_keys.proofs.variables.Variables.of_places.Given as goal

abbrev pub invariant-loop-number : goal.invariant-loop-number
invariant-loop-number l =
    Holds (fold with_variable (option_to_list (find (is_same (called l.x)) (variables_at 0 (map placed l.places)))) (variables_at 0 (map placed (take l.number l.places))))
    l.variables
