use Rattle.pgs_key_standing.proofs.Matched.{value_pairs, pairs_value}
use Rattle.pgs_key_standing.proofs.laws.values_are_by_places.Goals as goal

pub returns : goal.returns
returns c = λ resolved key valid. (value_pairs resolved key valid, pairs_value resolved key valid)
