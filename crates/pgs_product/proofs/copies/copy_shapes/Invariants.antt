use Rattle.std.proofs.Common.{◌≡◌, length, take}
use Rattle.pgs_base.specs.declared.row.NodeRow.{NodeRow}
use Rattle.pgs_conform.specs.Shapes.{in_some}
use Rattle.pgs_product.proofs.copies.copy_shapes.Given as goal

abbrev pub invariant-loop-shape : goal.invariant-loop-shape
invariant-loop-shape l = record {
  same : (p : NodeRow) → in_some l.copies.items p ≡ in_some (take l.shape-index l.shapes) p;
  count : length l.copies.items ≡ l.shape-index;
}
