use Rattle.std.proofs.Common.{Bool, List, sym, subst, arith}
use Rattle.std.proofs.lemmas.List.{length-take-le}
use Rattle.pgs_resolve_keys.specs.Patterns.{Variable}
use Rattle.pgs_resolve_keys.specs.VariableTable.{Holds}
use Rattle.pgs_resolve_keys.proofs.Listed.{one_more_variable}
use Rattle.pgs_resolve_keys.proofs.variables.Variables.of_places.Goals as goal

pub loop-number-preserved : goal.loop-number-preserved
loop-number-preserved c =
    let P : List (Variable × Bool) → Type 0 = λ vs. Holds vs c.add.new.self in
    subst P (sym (one_more_variable _ c.args.places.now c.loop-number.number c.index-places-number.result (omega arith) c.index-places-number.is
    (length-take-le c.loop-number.number c.args.places.now (omega arith))))
    (c.in_ok-add.ensures _ c.loop-number.invariant)
