use Rattle.pgs_syntax.specs.KeyValues.{starts_at}
use Rattle.pgs_syntax.proofs.Assigned.{match_found, match_given}
use Rattle.pgs_syntax.proofs.laws.scope_is_by_matches.Goals as goal

pub returns : goal.returns
returns c = λ resolved g key elem. (
  match_found resolved g key.scope (starts_at elem),
  λ any. match_given resolved g key.scope (starts_at elem) any.0 any.1 any.2,
)
