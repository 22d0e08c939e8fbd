use Rattle.pgs_match.proofs.FirstOfMatches.{found, given}
use Rattle.pgs_match.proofs.laws.what_is_reached_is_by_matches.Goals as goal

pub returns : goal.returns
returns c = λ resolved g pattern var elem first. (
  found resolved g pattern var elem first,
  λ any. given resolved g pattern var elem first any.0 any.1 any.2 any.3,
)
