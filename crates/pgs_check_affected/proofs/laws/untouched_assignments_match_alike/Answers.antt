use Rattle.pgs_check_affected.proofs.Locality.{match_same, tuple_same}
use Rattle.pgs_check_affected.proofs.laws.untouched_assignments_match_alike.Goals as goal

pub returns-clause-matches : goal.returns-clause-matches
returns-clause-matches c = λ resolved touched g h agree pattern valid elems out. match_same resolved touched g h agree pattern valid elems out

pub returns-clause-tuples : goal.returns-clause-tuples
returns-clause-tuples c = λ touched g h agree exprs elems out. tuple_same touched g h agree exprs elems out
