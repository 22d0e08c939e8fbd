use Rattle.std.proofs.Common.{◌≡◌, ◌+◌, ◌*◌, ◌++◌, map, take}
use Rattle.pgs_base.specs.declared.element.Elem.TheVariants.{Node}
use Rattle.pgs_check_affected.specs.Changes.{known_in}
use Rattle.pgs_check_affected.proofs.change.add_nodes.Given as goal

abbrev pub invariant-loop-node : goal.invariant-loop-node
invariant-loop-node g l = record {
  so_far : l.known.items ≡ l.fn.known.items ++ map (λ node. known_in (g.G.GraphRead.meaning l.before) (g.H.GraphRead.meaning l.after) (Node node.0)) (take l.node-index l.nodes);
  looked : l.steps ≡ l.fn.steps + 2 * l.node-index;
}
