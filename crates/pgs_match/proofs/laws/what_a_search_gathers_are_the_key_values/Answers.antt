use Rattle.pgs_match.proofs.Values.{gathered_are_values}
use Rattle.pgs_match.proofs.laws.what_a_search_gathers_are_the_key_values.Goals as goal

pub returns : goal.returns
returns c = λ resolved g key valid below plan plans elem. gathered_are_values resolved g key valid below plan plans elem
