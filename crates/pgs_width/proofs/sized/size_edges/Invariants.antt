use Rattle.std.proofs.Common.{◌≡◌, ◌++◌, List, [], map, take}
use Rattle.pgs_syntax.specs.Width.{Width, edge_widths, sized_edges}
use Rattle.pgs_width.specs.Capped.{capped_width}
use Rattle.pgs_width.specs.First.{capped_type}
use Rattle.pgs_width.proofs.sized.size_edges.Given as goal

abbrev pub invariant-loop-edge : goal.invariant-loop-edge
invariant-loop-edge l = record {
  widths : (exact : List Width) → l.nodes ≡ map capped_width exact → l.widths.items ≡ map capped_width (edge_widths exact [] (take l.edge-index l.types));
  sized : (exact : List Width) → l.nodes ≡ map capped_width exact →
      l.sized.items ≡ l.fn.sized.items ++ map capped_type (sized_edges (take l.edge-index l.types) (edge_widths exact [] (take l.edge-index l.types)));
}
