use Rattle.pgs_base.proofs.Items.{copied_more}
use Rattle.pgs_match.proofs.copies.copy_exprs.Goals as goal

pub loop-expr-init : goal.loop-expr-init
loop-expr-init c = c.in_ok-copies.ensures.items

pub loop-expr-preserved : goal.loop-expr-preserved
loop-expr-preserved c =
    copied_more c.args.exprs.now c.loop-expr.copies.items c.push.new.self.items c.loop-expr.expr-index c.expr-item.result c.in_ok-copy.copy c.loop-expr-test.true c.loop-expr.invariant
    c.in_ok-copy.ensures c.expr-item.is c.in_ok-push.ensures.items
