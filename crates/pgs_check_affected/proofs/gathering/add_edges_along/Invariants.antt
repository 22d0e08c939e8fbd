use Rattle.std.proofs.Common.{◌≡◌, ◌+◌, ◌≤◌, ◌++◌, cond, length, map, take}
use Rattle.pgs_base.specs.declared.element.Elem.TheVariants.{Edge}
use Rattle.pgs_graph.specs.Reads.{out_edges_of, in_edges_of}
use Rattle.pgs_check_affected.proofs.gathering.add_edges_along.Given as goal

abbrev pub invariant-loop-nth : goal.invariant-loop-nth
invariant-loop-nth g l =
    let graph = g.G.GraphRead.meaning l.graph in
    let ids = cond l.forward (out_edges_of graph l.id) (in_edges_of graph l.id) in
    record {
      so_far : l.elems.items ≡ l.fn.elems.items ++ map (λ edge. Edge edge) (take l.nth ids);
      within : l.nth ≤ length ids;
      looked : l.steps ≡ l.fn.steps + l.nth;
    }
