use Rattle.pgs_match.proofs.Asking.{asked_sparse, asked_walks}
use Rattle.pgs_match.proofs.laws.branches_add.Goals as goal

pub returns-clause-sparse : goal.returns-clause-sparse
returns-clause-sparse c = λ resolved g pattern graph valid var below plan plans elem bound admits edges most few sparse.
    asked_sparse resolved g graph pattern valid var below plan plans elem bound admits edges most few sparse

pub returns-clause-walks : goal.returns-clause-walks
returns-clause-walks c = λ resolved g pattern graph valid var below plan plans elem bound admits.
    asked_walks resolved g graph pattern valid var below plan plans elem bound admits
