use Rattle.std.proofs.Common.{◌≡◌, ◌≤◌, take}
use Rattle.pgs_saved_graph.proofs.rows.node_rows.Given as goal

abbrev pub invariant-loop-id : goal.invariant-loop-id
invariant-loop-id g l = record {
  so_far : l.rows.items ≡ take l.id-index (g.G.GraphRead.meaning l.graph).nodes;
  no_step_back : l.fn.steps ≤ l.steps;
}
