use Rattle.std.proofs.Common.{◌≡◌, List, Option, None, drop}
use Rattle.std.specs.BTreeMap as tree
use Rattle.pgs_base.specs.declared.element.Elem.{Elem}
use Rattle.pgs_base.specs.declared.part.Part.{Part}
use Rattle.pgs_base.specs.Order.{tuple_cmp}
use Rattle.pgs_check.specs.Clashes.{with_earlier}
use Rattle.pgs_check.proofs.sharing.with_earlier.Given as goal

abbrev pub invariant-loop-row : goal.invariant-loop-row
invariant-loop-row l = (holder : List Part → Option Elem) → ((q : List Part) → holder q ≡ tree.get_by (λ k. tuple_cmp q k.now) l.table) →
    with_earlier l.number holder l.found (drop l.row-index l.rows) ≡ with_earlier l.number (λ q. None) l.fn.found l.rows
