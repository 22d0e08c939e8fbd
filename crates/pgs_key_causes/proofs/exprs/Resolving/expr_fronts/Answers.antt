use Rattle.std.proofs.Common.{List, map, sym, ap, ◌∙◌, arith}
use Rattle.std.specs.List.{enumerate_from}
use Rattle.pgs_syntax.specs.declared.key.Key.{Key}
use Rattle.pgs_syntax.specs.declared.pattern.Expr.{Expr}
use Rattle.pgs_key_causes.specs.Fronts.{expr_front}
use Rattle.pgs_key_causes.proofs.Places.{one_more_numbered, all_numbered, expr_at}
use Rattle.pgs_key_causes.proofs.exprs.Resolving.expr_fronts.Goals as goal

pub expr_front-requires-clause-low : goal.expr_front-requires-clause-low
expr_front-requires-clause-low c = omega arith

pub expr_front-requires-clause-valid : goal.expr_front-requires-clause-valid
expr_front-requires-clause-valid c =
    expr_at _ c.args.resolved.now c.as_slice-exprs.result.now c.loop-number.number c.index-exprs-number.result c.as_slice-exprs.ensures c.requires.same (omega arith)
    c.index-exprs-number.is c.requires.valid

pub loop-number-preserved : goal.loop-number-preserved
loop-number-preserved c =
    one_more_numbered (expr_front c.args.resolved.now) c.as_slice-exprs.result.now c.loop-number.number c.index-exprs-number.result c.loop-number.fronts.items
    c.push.new.self.items c.in_ok-expr_front.field-0 (omega arith) c.loop-number.invariant
    (c.in_ok-expr_front.ensures ∙ ap (λ (key : Key). expr_front key (c.loop-number.number, c.index-exprs-number.result)) (sym c.requires.same)
    ∙ ap (λ (expr : Expr). expr_front c.args.resolved.now (c.loop-number.number, expr)) c.index-exprs-number.is)
    c.in_ok-push.ensures.items

pub returns : goal.returns
returns c =
    all_numbered (expr_front c.args.resolved.now) c.as_slice-exprs.result.now c.loop-number.number c.loop-number.fronts.items (omega arith) c.loop-number.invariant
    ∙ ap (λ (exprs : List Expr). map (expr_front c.args.resolved.now) (enumerate_from 0 exprs)) c.as_slice-exprs.ensures
