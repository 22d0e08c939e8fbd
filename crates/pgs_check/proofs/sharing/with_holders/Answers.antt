use Rattle.std.proofs.Common.{List, Option, ◌∙◌, ap}
use Rattle.std.specs.BTreeMap as tree
use Rattle.pgs_base.specs.declared.element.Elem.{Elem}
use Rattle.pgs_base.specs.declared.part.Part.{Part}
use Rattle.pgs_base.specs.Order.{tuple_cmp}
use Rattle.pgs_check.specs.Clashes.{with_holder, with_holders}
use Rattle.pgs_check.proofs.Steps.{holders_step, holders_done}
use Rattle.pgs_check.proofs.sharing.with_holders.Goals as goal

pub loop-tuple-preserved : goal.loop-tuple-preserved
loop-tuple-preserved c =
    let at : List Part → Option Elem = λ q. tree.get_by (λ k. tuple_cmp q k.now) c.args.table.now in
    holders_step c.args.number at c.args.elem (with_holders c.args.number at c.args.elem c.args.found c.args.tuples.now) c.args.tuples.now
    c.loop-tuple.tuple-index c.tuple-item.result c.tuple-item.is c.loop-tuple-test.true c.loop-tuple.found c.in_ok-least.least
    (c.in_ok-least.ensures ∙ ap (with_holder c.args.number c.args.elem c.loop-tuple.found c.tuple-item.result) (c.copied-holder.ensures ∙ c.get.ensures.value))
    c.loop-tuple.invariant

pub returns : goal.returns
returns c =
    let at : List Part → Option Elem = λ q. tree.get_by (λ k. tuple_cmp q k.now) c.args.table.now in
    holders_done c.args.number at c.args.elem (with_holders c.args.number at c.args.elem c.args.found c.args.tuples.now) c.args.tuples.now
    c.loop-tuple.tuple-index c.loop-tuple-test.false c.loop-tuple.found c.loop-tuple.invariant
