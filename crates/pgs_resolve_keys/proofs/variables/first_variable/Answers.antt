use Rattle.std.proofs.Common.{Bool, List, [], map, Some, subst}
use Rattle.pgs_resolve_keys.specs.Patterns.{Variable, variables_at}
use Rattle.pgs_resolve_keys.specs.Placed.{placed}
use Rattle.pgs_resolve_keys.specs.VariableTable.{Holds}
use Rattle.pgs_resolve_keys.proofs.Listed.{first_is}
use Rattle.pgs_resolve_keys.proofs.variables.first_variable.Goals as goal

pub returns-in_ok-add_named-in-Some : goal.returns-in_ok-add_named-in-Some
returns-in_ok-add_named-in-Some c =
    let P : List (Variable × Bool) → Type 0 = λ vs. Holds vs c.add_named.new.self in
    subst P (first_is c.args.x.now (variables_at 0 (map placed c.args.places.now)) (Some c.in-Some.is_edge) c.in-Some.ensures)
    (c.in_ok-add_named-in-Some.ensures [] c.new-variables.ensures)
