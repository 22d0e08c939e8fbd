use Rattle.std.proofs.Common.{sym, ◌∙◌, map}
use Rattle.pgs_syntax.specs.Fitting.{suits}
use Rattle.pgs_syntax.specs.Join.{of_triples}
use Rattle.pgs_syntax.proofs.Specs.{suits_and}
use Rattle.pgs_syntax.proofs.TriplesMean.{all_triples_mean, all_triples_meant}
use Rattle.pgs_syntax.proofs.laws_of_joins.edge_parts_are_joined.Goals as goal

pub returns : goal.returns
returns c = λ named parts t pairs. (
  λ h. all_triples_mean (map (suits of_triples named) parts) t pairs (sym (suits_and of_triples named parts t) ∙ h),
  λ h. suits_and of_triples named parts t ∙ all_triples_meant (map (suits of_triples named) parts) t pairs h,
)
