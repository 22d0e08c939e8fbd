use Rattle.pgs_check_affected.proofs.Locality.{place_same, values_same}
use Rattle.pgs_check_affected.proofs.laws.what_differs_binds_a_touched_element.Goals as goal

pub returns-clause-place : goal.returns-clause-place
returns-clause-place c = λ resolved touched g h agree key valid elem none. place_same resolved touched g h agree key valid elem none

pub returns-clause-values : goal.returns-clause-values
returns-clause-values c = λ resolved touched g h agree key valid elem none. values_same resolved touched g h agree key valid elem none
