use Rattle.std.proofs.Common.{◌≡◌, List, cond, take, drop, Some, None}
use Rattle.std.specs.Prelude.{option_map}
use Rattle.std.specs.BTreeMap as tree
use Rattle.std.specs.List.{list_any}
use Rattle.pgs_base.specs.declared.part.Part.{Part}
use Rattle.pgs_base.specs.Order.{tuple_cmp}
use Rattle.pgs_scratch.specs.Owners.{nearest, with_tuple}
use Rattle.pgs_scratch.proofs.owners.enter.Given as goal

abbrev pub invariant-loop-tuple : goal.invariant-loop-tuple
invariant-loop-tuple l = record {
  nearest : nearest (λ q. tree.get_by (λ k. tuple_cmp q k.now) l.fn.table) (option_map with_tuple l.found) (drop l.tuple-index l.row.tuples)
      ≡ nearest (λ q. tree.get_by (λ k. tuple_cmp q k.now) l.fn.table) None l.row.tuples;
  owners : (q : List Part) → tree.get_by (λ k. tuple_cmp q k.now) l.table
      ≡ cond (list_any (tree.is_at (tuple_cmp q)) (take l.tuple-index l.row.tuples)) (Some l.row.elem) (tree.get_by (λ k. tuple_cmp q k.now) l.fn.table);
}
