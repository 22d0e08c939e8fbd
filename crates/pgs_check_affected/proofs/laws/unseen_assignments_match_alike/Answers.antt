use Rattle.pgs_check_affected.proofs.Locality.{patterns_valid}
use Rattle.pgs_check_affected.proofs.Unseen.{side_alike, tuples_alike}
use Rattle.pgs_check_affected.proofs.laws.unseen_assignments_match_alike.Goals as goal

pub returns-clause-matches : goal.returns-clause-matches
returns-clause-matches c = λ resolved seen g h key valid agree side elems out. side_alike resolved g h seen key agree valid side elems out

pub returns-clause-tuples : goal.returns-clause-tuples
returns-clause-tuples c = λ resolved seen g h key valid agree elems out match. tuples_alike resolved g h seen key agree (patterns_valid key valid).1 elems out match
