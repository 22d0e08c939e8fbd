use Rattle.std.proofs.Common.{length}
use Rattle.pgs_base.specs.Graph.{Graph}
use Rattle.pgs_txn.specs.Removing.{OnlyEdgesAt}
use Rattle.pgs_txn.specs.Rows.{IsIndexed}
use Rattle.pgs_txn.specs.Working.{StandsOn}
use Rattle.pgs_txn.proofs.working.Working.drop_put_edges.Given as goal

abbrev pub invariant-loop-edge : goal.invariant-loop-edge
invariant-loop-edge l = record {
  indexed : IsIndexed l.self.rows;
  only : (g : Graph) → StandsOn g l.initial.self → OnlyEdgesAt g l.id l.initial.self l.self;
}

abbrev pub decreases-loop-edge : goal.decreases-loop-edge
decreases-loop-edge l = length l.self.rows.ends
