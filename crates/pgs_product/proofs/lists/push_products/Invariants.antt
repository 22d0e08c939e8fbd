use Rattle.std.proofs.Common.{◌≡◌, ◌+◌, ◌||◌, true, length, take}
use Rattle.std.specs.List.{list_any}
use Rattle.pgs_base.specs.declared.row.NodeRow.{NodeRow}
use Rattle.pgs_base.specs.Pair.{is_pair}
use Rattle.pgs_syntax.specs.Join.{of_pairs, joined}
use Rattle.pgs_conform.specs.Shapes.{in_shape, in_some}
use Rattle.pgs_product.proofs.lists.push_products.Given as goal

abbrev pub invariant-loop-shape : goal.invariant-loop-shape
invariant-loop-shape l = record {
  denote : (p : NodeRow) → is_pair p ≡ true → in_some l.products.items p
      ≡ (in_some l.fn.products.items p || list_any (λ shape. joined of_pairs (in_shape l.first) (in_shape shape) p) (take l.shape-index l.second));
  count : length l.products.items ≡ length l.fn.products.items + l.shape-index;
}
