use Rattle.pgs_syntax.proofs.TriplesMean.{triple_means, triple_meant}
use Rattle.pgs_syntax.proofs.laws_of_joins.a_join_is_of_two_triples.Goals as goal

pub returns : goal.returns
returns c = λ first second t pairs. (triple_means first second t pairs, triple_meant first second t pairs)
