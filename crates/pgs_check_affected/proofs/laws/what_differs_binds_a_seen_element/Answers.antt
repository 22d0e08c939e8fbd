use Rattle.pgs_check_affected.proofs.Unseen.{place_alike, key_values_alike}
use Rattle.pgs_check_affected.proofs.laws.what_differs_binds_a_seen_element.Goals as goal

pub returns-clause-place : goal.returns-clause-place
returns-clause-place c = λ resolved seen g h key agree valid elem none. place_alike resolved g h seen key agree valid elem none

pub returns-clause-values : goal.returns-clause-values
returns-clause-values c = λ resolved seen g h key agree valid elem none. key_values_alike resolved g h seen key agree valid elem none
