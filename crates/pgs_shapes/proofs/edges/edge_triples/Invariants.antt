use Rattle.std.proofs.Common.{◌≡◌, true, List, [], length, take}
use Rattle.pgs_syntax.specs.Fitting.{fits_node, fits_edge}
use Rattle.pgs_syntax.specs.Valid.{is_valid}
use Rattle.pgs_syntax.specs.Width.{Width, edge_widths}
use Rattle.pgs_conform.specs.Counts.{AreWithin}
use Rattle.pgs_conform.specs.Standing.{EachDenotes, EachDenotesTriples}
use Rattle.pgs_shapes.proofs.edges.edge_triples.Given as goal

abbrev pub invariant-loop-edge : goal.invariant-loop-edge
invariant-loop-edge l = record {
  count : length l.lists.items ≡ l.edge-index;
  denote : is_valid l.resolved ≡ true → length l.nodes ≡ length l.resolved.nodes → EachDenotes l.nodes (fits_node l.resolved) →
      EachDenotesTriples l.lists.items (fits_edge l.resolved);
  within : (widths : List Width) → AreWithin widths l.nodes → AreWithin (edge_widths widths [] (take l.edge-index l.edges)) l.lists.items;
}
