use Rattle.pgs_advice.specs.Unknown.{unknown_read, with_word}
use Rattle.pgs_advice.proofs.Walks.{more_found}
use Rattle.pgs_advice.proofs.unknown.push_reads.Goals as goal

pub loop-expr-preserved : goal.loop-expr-preserved
loop-expr-preserved c =
    more_found (unknown_read c.args.words.now c.args.edge_vars.now) with_word c.args.found.now.items c.args.exprs.now c.loop-expr.expr-index
    c.expr-item.result c.loop-expr.found.items c.push_word.new.found.items c.in_ok-word.word c.loop-expr-test.true c.expr-item.is c.loop-expr.invariant c.in_ok-word.ensures
    c.in_ok-push_word.ensures
