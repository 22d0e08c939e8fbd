use Rattle.std.proofs.Common.{◌≡◌, List, cond, take, Some}
use Rattle.std.specs.BTreeMap as tree
use Rattle.pgs_base.specs.declared.part.Part.{Part}
use Rattle.pgs_base.specs.Order.{tuple_cmp}
use Rattle.pgs_keyindex.specs.Rows.{has_tuple}
use Rattle.pgs_check.proofs.sharing.enter.Given as goal

abbrev pub invariant-loop-tuple : goal.invariant-loop-tuple
invariant-loop-tuple l = (q : List Part) → tree.get_by (λ k. tuple_cmp q k.now) l.table
    ≡ cond (has_tuple q (take l.tuple-index l.tuples)) (Some l.elem) (tree.get_by (λ k. tuple_cmp q k.now) l.fn.table)
