use Rattle.pgs_syntax.proofs.Assigned.{match_found, match_given}
use Rattle.pgs_syntax.proofs.laws.every_match_is_listed.Goals as goal

pub returns : goal.returns
returns c = λ resolved g pattern test. (
  match_found resolved g pattern test,
  λ any. match_given resolved g pattern test any.0 any.1 any.2,
)
