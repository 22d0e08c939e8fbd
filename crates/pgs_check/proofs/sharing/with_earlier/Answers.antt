use Rattle.std.proofs.Common.{List, Option, ◌∙◌, ap, cond, Some, None, refl}
use Rattle.std.specs.BTreeMap as tree
use Rattle.std.specs.Map.{lookup}
use Rattle.std.specs.BTreeMap.{is_at}
use Rattle.pgs_base.specs.declared.element.Elem.{Elem}
use Rattle.pgs_base.specs.declared.part.Part.{Part}
use Rattle.pgs_base.specs.Order.{tuple_cmp}
use Rattle.pgs_keyindex.specs.Rows.{has_tuple}
use Rattle.pgs_check.specs.Clashes.{with_earlier, with_holders}
use Rattle.pgs_check.proofs.Steps.{earlier_step, earlier_done}
use Rattle.pgs_check.proofs.sharing.with_earlier.Goals as goal

pub loop-row-init : goal.loop-row-init
loop-row-init c = λ holder same.
    ap (λ h. with_earlier c.args.number h c.args.found c.args.rows.now)
    (λ j q. (same q ∙ ap (lookup (is_at (λ k. tuple_cmp q k.now))) c.new-table.ensures.empty) j)

pub loop-row-preserved : goal.loop-row-preserved
loop-row-preserved c = λ holder same.
    let at : List Part → Option Elem = λ q. tree.get_by (λ k. tuple_cmp q k.now) c.loop-row.table in
    let row = c.row-item.result in
    earlier_step c.args.number at holder (with_earlier c.args.number (λ q. None) c.args.found c.args.rows.now) c.args.rows.now c.loop-row.row-index row c.row-item.is
    c.loop-row-test.true c.loop-row.found c.in_ok-least.least
    (c.in_ok-least.ensures ∙ ap (with_holders c.args.number at row.elem c.loop-row.found) c.tuples_of-tuples.ensures)
    (λ q. same q ∙ c.in_ok-enter.ensures q ∙ ap (λ ts. cond (has_tuple q ts) (Some row.elem) (at q)) c.tuples_of-tuples.ensures)
    (c.loop-row.invariant at (λ q. refl))

pub returns : goal.returns
returns c =
    let at : List Part → Option Elem = λ q. tree.get_by (λ k. tuple_cmp q k.now) c.loop-row.table in
    earlier_done c.args.number at (with_earlier c.args.number (λ q. None) c.args.found c.args.rows.now) c.args.rows.now c.loop-row.row-index c.loop-row-test.false
    c.loop-row.found (c.loop-row.invariant at (λ q. refl))
