use Rattle.pgs_match.proofs.WayEnds.{ways_sparse, ways_walks, ways_one, one_of}
use Rattle.pgs_match.proofs.laws.ways_add.Goals as goal

pub returns-clause-sparse : goal.returns-clause-sparse
returns-clause-sparse c = λ resolved g pattern graph valid var below plan plans elem bound admits wanted last small edges most few sparse.
    ways_sparse resolved g graph pattern valid var below plan plans elem bound admits wanted edges most last few sparse small

pub returns-clause-routes : goal.returns-clause-routes
returns-clause-routes c = λ resolved g pattern graph valid var below plan plans elem bound admits wanted last small.
    ways_walks resolved g graph pattern valid var below plan plans elem bound admits wanted last small

pub returns-clause-walks : goal.returns-clause-walks
returns-clause-walks c = λ resolved g pattern graph valid var below plan plans elem bound admits wanted other only last small.
    ways_one resolved g graph pattern valid var below plan plans elem bound admits wanted other (one_of var other wanted only) last small
