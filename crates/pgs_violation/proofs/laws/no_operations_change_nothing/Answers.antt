use Rattle.std.proofs.Common.{◌≡◌, false, nat_lt, arith}
use Rattle.std.proofs.lemmas.Bool.{le-ltb}
use Rattle.pgs_base.specs.Graph.{element_count}
use Rattle.pgs_violation.proofs.laws.no_operations_change_nothing.Goals as goal

pub returns : goal.returns
returns c = λ limits g within.
    let few : nat_lt limits.ops 0 ≡ false = le-ltb limits.ops 0 (omega arith) in
    let small : nat_lt limits.elements (element_count g) ≡ false = le-ltb limits.elements (element_count g) within in
    rw (few, small)
