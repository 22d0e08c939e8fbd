use Rattle.std.proofs.Common.{sym, ◌∙◌, map}
use Rattle.pgs_syntax.specs.Join.{of_pairs}
use Rattle.pgs_syntax.specs.Fitting.{fits, fits_node}
use Rattle.pgs_syntax.proofs.JoinMeans.{all_mean, all_meant}
use Rattle.pgs_syntax.proofs.Specs.{suits_and}
use Rattle.pgs_syntax.proofs.laws.parts_are_joined.Goals as goal

pub returns : goal.returns
returns c = λ resolved parts p pair. (
  λ h. all_mean (map (fits resolved) parts) p pair (sym (suits_and of_pairs (fits_node resolved) parts p) ∙ h),
  λ h. suits_and of_pairs (fits_node resolved) parts p ∙ all_meant (map (fits resolved) parts) p pair h,
)
