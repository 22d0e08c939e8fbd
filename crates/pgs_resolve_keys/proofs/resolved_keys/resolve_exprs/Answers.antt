use Rattle.std.proofs.Common.{◌++◌, ◌∷◌, [], List, map, take, sym, ◌∙◌, ap, arith}
use Rattle.std.proofs.lemmas.List.{map-append}
use Rattle.pgs_syntax.specs.declared.pattern.Expr.{Expr}
use Rattle.pgs_resolve_keys.specs.Patterns.{resolved_expr}
use Rattle.pgs_resolve_declared.proofs.Walks.{one_more}
use Rattle.pgs_resolve_keys.proofs.resolved_keys.resolve_exprs.Goals as goal

pub loop-expr-preserved : goal.loop-expr-preserved
loop-expr-preserved c held holds =
    let xs = c.args.exprs.now in
    let i = c.loop-expr.expr-index in
    c.in_ok-push.ensures.items ∙ ap (λ (exprs : List Expr). exprs ++ c.in_ok-resolve_expr.field-0 ∷ []) (c.loop-expr.invariant held holds)
    ∙ ap (λ (expr : Expr). map (resolved_expr held) (take i xs) ++ expr ∷ []) (c.in_ok-resolve_expr.ensures held holds)
    ∙ sym (ap (map (resolved_expr held)) (one_more xs i c.expr-item.result (omega arith) c.expr-item.is) ∙ map-append (resolved_expr held) (take i xs) (c.expr-item.result ∷ []))
