use Rattle.pgs_match.proofs.WayValues.{routes_give_all}
use Rattle.pgs_match.proofs.laws.what_hangs_off_the_way_is_only_asked.Goals as goal

pub returns : goal.returns
returns c = λ resolved g pattern graph valid var below plan plans tree elem wanted exprs reads inside.
    routes_give_all resolved g graph pattern valid var below plan plans tree elem wanted exprs reads inside
