use Rattle.std.proofs.Common.{◌≡◌, true, [], length, take}
use Rattle.pgs_syntax.specs.Fitting.{fits_node}
use Rattle.pgs_syntax.specs.Valid.{is_valid}
use Rattle.pgs_syntax.specs.Width.{node_widths}
use Rattle.pgs_conform.specs.Counts.{AreWithin}
use Rattle.pgs_conform.specs.Standing.{EachDenotes}
use Rattle.pgs_shapes.proofs.nodes.node_shapes.Given as goal

abbrev pub invariant-loop-node : goal.invariant-loop-node
invariant-loop-node l = record {
  count : length l.lists.items ≡ l.node-index;
  denote : is_valid l.resolved ≡ true → EachDenotes l.lists.items (fits_node l.resolved);
  within : AreWithin (node_widths [] (take l.node-index l.nodes)) l.lists.items;
}
