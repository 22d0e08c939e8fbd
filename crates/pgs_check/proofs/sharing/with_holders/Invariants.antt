use Rattle.std.proofs.Common.{◌≡◌, drop}
use Rattle.std.specs.BTreeMap as tree
use Rattle.pgs_base.specs.Order.{tuple_cmp}
use Rattle.pgs_check.specs.Clashes.{with_holders}
use Rattle.pgs_check.proofs.sharing.with_holders.Given as goal

abbrev pub invariant-loop-tuple : goal.invariant-loop-tuple
invariant-loop-tuple l = with_holders l.number (λ q. tree.get_by (λ k. tuple_cmp q k.now) l.table) l.elem l.found (drop l.tuple-index l.tuples)
    ≡ with_holders l.number (λ q. tree.get_by (λ k. tuple_cmp q k.now) l.table) l.elem l.fn.found l.tuples
