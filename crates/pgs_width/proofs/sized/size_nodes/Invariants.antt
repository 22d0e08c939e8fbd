use Rattle.std.proofs.Common.{◌≡◌, ◌++◌, [], map, take}
use Rattle.pgs_syntax.specs.Width.{node_widths, sized_nodes}
use Rattle.pgs_width.specs.Capped.{capped_width}
use Rattle.pgs_width.specs.First.{capped_type}
use Rattle.pgs_width.proofs.sized.size_nodes.Given as goal

abbrev pub invariant-loop-node : goal.invariant-loop-node
invariant-loop-node l = record {
  widths : l.widths.items ≡ map capped_width (node_widths [] (take l.node-index l.types));
  sized : l.sized.items ≡ l.fn.sized.items ++ map capped_type (sized_nodes (take l.node-index l.types) (node_widths [] (take l.node-index l.types)));
}
