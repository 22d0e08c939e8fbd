use Rattle.std.proofs.Common.{◌≡◌, ◌+◌, ◌*◌, ◌++◌, map, take}
use Rattle.pgs_base.specs.declared.element.Elem.TheVariants.{Edge}
use Rattle.pgs_check_affected.specs.Changes.{known_in}
use Rattle.pgs_check_affected.proofs.change.add_edges.Given as goal

abbrev pub invariant-loop-edge : goal.invariant-loop-edge
invariant-loop-edge g l = record {
  so_far : l.known.items ≡ l.fn.known.items ++ map (λ edge. known_in (g.G.GraphRead.meaning l.before) (g.H.GraphRead.meaning l.after) (Edge edge.0)) (take l.edge-index l.edges);
  looked : l.steps ≡ l.fn.steps + 2 * l.edge-index;
}
