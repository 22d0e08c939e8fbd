use Rattle.std.proofs.Common.{◌≡◌, ℕ, ◌+◌, ◌*◌, ◌≤◌, true, drop}
use Rattle.pgs_violation.specs.Staging.{after_ops}
use Rattle.pgs_txn.specs.Listing.{has_degrees_upto, may_list_node, may_list_edge}
use Rattle.pgs_txn.specs.Working.{StandsOn, graph_now, Lists}
use Rattle.pgs_txn.proofs.staging.do_ops.Given as goal

abbrev pub invariant-loop-index : goal.invariant-loop-index
invariant-loop-index g l = let m = g.G.GraphRead.meaning l.graph in record {
  done : after_ops m 1 l.ops ≡ after_ops (graph_now m l.working) (l.index + 1) (drop l.index l.ops);
  stands : StandsOn m l.working;
  lists : Lists (may_list_node l.ops) (may_list_edge m l.ops) l.working.rows;
  no_step_back : l.initial.steps ≤ l.steps;
  looks : (most : ℕ) → has_degrees_upto m most l.ops ≡ true → l.steps ≤ l.initial.steps + l.index * (most + 3);
}
