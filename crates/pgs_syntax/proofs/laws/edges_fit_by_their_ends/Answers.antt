use Rattle.pgs_syntax.specs.Join.{of_triples}
use Rattle.pgs_syntax.specs.Fitting.{fits, suits}
use Rattle.pgs_syntax.proofs.Edges.{edge_found, edge_given}
use Rattle.pgs_syntax.proofs.laws.edges_fit_by_their_ends.Goals as goal

pub returns : goal.returns
returns c = λ resolved named type t first last. (
  edge_found (fits resolved type.source) (fits resolved type.target) (suits of_triples named type.middle) t first last,
  edge_given (fits resolved type.source) (fits resolved type.target) (suits of_triples named type.middle) t first last,
)
