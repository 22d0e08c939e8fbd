use Rattle.std.proofs.Common.{◌≡◌, ◌++◌, ◌≤◌, take}
use Rattle.std.specs.Prelude.{filter_map}
use Rattle.pgs_scratch.specs.Untyped.{untyped_edge_at}
use Rattle.pgs_scratch.proofs.untyped.add_untyped_edges.Given as goal

abbrev pub invariant-loop-id : goal.invariant-loop-id
invariant-loop-id g l = record {
  so_far : l.found.items ≡ l.fn.found.items ++ filter_map (untyped_edge_at l.compiled (g.G.GraphRead.meaning l.graph)) (take l.id-index l.edges);
  no_step_back : l.fn.steps ≤ l.steps;
}
