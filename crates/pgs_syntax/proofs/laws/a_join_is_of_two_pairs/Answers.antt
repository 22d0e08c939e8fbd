use Rattle.pgs_syntax.proofs.JoinMeans.{means, meant}
use Rattle.pgs_syntax.proofs.laws.a_join_is_of_two_pairs.Goals as goal

pub returns : goal.returns
returns c = λ first second p pair. (means first second p pair, meant first second p pair)
