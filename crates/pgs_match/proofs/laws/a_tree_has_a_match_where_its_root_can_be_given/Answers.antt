use Rattle.pgs_match.proofs.Asking.{given_is_matched}
use Rattle.pgs_match.proofs.laws.a_tree_has_a_match_where_its_root_can_be_given.Goals as goal

pub returns : goal.returns
returns c = λ resolved g pattern graph valid var below plan plans tree elem bound admits.
    given_is_matched resolved g graph pattern valid var below plan plans elem bound admits tree
