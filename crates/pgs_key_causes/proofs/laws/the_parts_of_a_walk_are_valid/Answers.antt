use Rattle.pgs_key_causes.proofs.ValidFronts.{places_valid, exprs_valid}
use Rattle.pgs_key_causes.proofs.laws.the_parts_of_a_walk_are_valid.Goals as goal

pub returns : goal.returns
returns c = record { places = places_valid; exprs = exprs_valid }
