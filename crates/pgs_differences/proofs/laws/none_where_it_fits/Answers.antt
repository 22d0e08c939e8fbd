use Rattle.pgs_differences.proofs.Fitting.{no_difference}
use Rattle.pgs_differences.proofs.laws.none_where_it_fits.Goals as goal

pub returns : goal.returns
returns c = no_difference
