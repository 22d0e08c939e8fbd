use Rattle.std.proofs.Common.{◌≡◌, [], rules}
use Rattle.pgs_base.proofs.Ascending.{ascending_none}
use Rattle.pgs_base.proofs.ordered.Ordered.new.Goals as goal

pub invariant_of-result : goal.invariant_of-result
invariant_of-result g c =
    let none : c.new.result.items ≡ [] = search rules in
    ascending_none g.K.Ord.cmp _ none
