use Rattle.pgs_base.proofs.Ascending.{ascends_decides}
use Rattle.tests_graph.proofs.conform.walks.shape.Goals as goal

pub invariant_of-result : goal.invariant_of-result
invariant_of-result c = record {
  ascending = rw (c.from_vec.ensures, c.into_vec-keys.ensures.items) ((ascends_decides _ _).1 c.into_vec-keys.ensures.ascending);
}
