use Rattle.std.proofs.Common.{◌≡◌, ◌+◌, ◌*◌, ◌≤◌, cond, length, take}
use Rattle.pgs_graph.specs.Reads.{out_edges_of, in_edges_of}
use Rattle.pgs_check.specs.Untyped.{is_untyped_edge, least_edge}
use Rattle.pgs_check.proofs.untyped.least_along.Given as goal

abbrev pub invariant-loop-nth : goal.invariant-loop-nth
invariant-loop-nth g l =
    let graph = g.G.GraphRead.meaning l.graph in
    let ids = cond l.forward (out_edges_of graph l.node) (in_edges_of graph l.node) in
    record {
      so_far : l.found ≡ least_edge (is_untyped_edge l.compiled graph) l.fn.found (take l.nth ids);
      within : l.nth ≤ length ids;
      no_step_back : l.fn.steps ≤ l.steps;
      cost : l.steps ≤ l.fn.steps + 4 * l.nth;
    }
