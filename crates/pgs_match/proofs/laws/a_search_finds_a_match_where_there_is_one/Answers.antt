use Rattle.pgs_match.proofs.Values.{found_by_matches}
use Rattle.pgs_match.proofs.laws.a_search_finds_a_match_where_there_is_one.Goals as goal

pub returns : goal.returns
returns c = λ resolved g pattern valid var below plan plans elem. found_by_matches resolved g pattern valid var below plan plans elem
