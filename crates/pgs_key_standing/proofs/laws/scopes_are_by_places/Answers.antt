use Rattle.pgs_key_standing.proofs.Matched.{scope_pairs, pairs_scope}
use Rattle.pgs_key_standing.proofs.laws.scopes_are_by_places.Goals as goal

pub returns : goal.returns
returns c = λ resolved key valid. (scope_pairs resolved key valid, pairs_scope resolved key valid)
