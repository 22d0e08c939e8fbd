use Rattle.pgs_syntax.proofs.Carried.{carried_pair, triple_of_pairs}
use Rattle.pgs_syntax.proofs.laws_of_joins.elements_carry_pairs.Goals as goal

pub returns-clause-pairs : goal.returns-clause-pairs
returns-clause-pairs c = λ g elem p graph at. carried_pair g graph elem p at

pub returns-clause-triples : goal.returns-clause-triples
returns-clause-triples c = λ g edge row t graph at ends. triple_of_pairs g graph edge row t at ends
