use Rattle.std.proofs.Common.{◌+◌, length, ◌≡◌, ◌||◌, take}
use Rattle.pgs_base.specs.declared.row.NodeRow.{NodeRow}
use Rattle.pgs_conform.specs.Shapes.{in_some}
use Rattle.pgs_contain.proofs.typed.push_shapes.Given as goal

abbrev pub invariant-loop-shape : goal.invariant-loop-shape
invariant-loop-shape l = record {
  denote : (p : NodeRow) → in_some l.all.items p ≡ (in_some l.fn.all.items p || in_some (take l.shape-index l.shapes) p);
  count : length l.all.items ≡ length l.fn.all.items + l.shape-index;
}
