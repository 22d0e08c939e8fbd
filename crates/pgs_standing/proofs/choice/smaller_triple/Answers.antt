use Rattle.std.proofs.Common.{◌≡◌, ◌<◌, ◌≤◌, true, nat_lt, sym, subst, arith}
use Rattle.pgs_contain.specs.Threes.{owned_triple}
use Rattle.pgs_standing.specs.Example.{by_edges, triple_size, IsFoundTriple}
use Rattle.pgs_standing.proofs.Smaller.{smaller_found}
use Rattle.pgs_standing.proofs.choice.smaller_triple.Goals as goal

pub returns-then-triple_size : goal.returns-then-triple_size
returns-then-triple_size c = λ f g found other.
    let first = owned_triple c.in-Some.first in
    let second = owned_triple c.in-Some-other.second in
    let smaller : triple_size second ≤ triple_size first = omega (arith, c.triple_size.ensures, c.triple_size-2.ensures, c.if-triple_size.true) in
    smaller_found by_edges f g first second (subst (IsFoundTriple f) c.in-Some.is found) (subst (IsFoundTriple g) c.in-Some-other.is other) smaller
