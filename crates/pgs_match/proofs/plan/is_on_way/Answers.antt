use Rattle.std.proofs.Common.{◌||◌, ◌==◌, sym, ap, ◌∙◌}
use Rattle.std.specs.List.{list_any}
use Rattle.std.proofs.lemmas.Bool.{or_left}
use Rattle.pgs_syntax.specs.declared.pattern.Expr.{Expr}
use Rattle.pgs_syntax.specs.Valid.{read_var}
use Rattle.pgs_match.specs.Branches.{goes_from}
use Rattle.pgs_match.specs.Plans.{bound_by}
use Rattle.pgs_match.proofs.Splitting.{on_way_of}
use Rattle.pgs_match.proofs.plan.is_on_way.Goals as goal

pub returns-then-is_taken : goal.returns-then-is_taken
returns-then-is_taken c =
    c.if-is_taken.true
    ∙ sym (on_way_of c.args.exprs.now c.args.ways.now c.args.step
    ∙ or_left _ _ (ap (λ v. list_any (λ (expr : Expr). read_var expr == v) c.args.exprs.now) (sym c.bound-var.ensures) ∙ sym c.is_taken.ensures ∙ c.if-is_taken.true))

pub returns-else-is_taken : goal.returns-else-is_taken
returns-else-is_taken c =
    c.is_left.ensures ∙ ap (λ v. list_any (goes_from v) c.args.ways.now) c.bound-var.ensures
    ∙ sym (on_way_of c.args.exprs.now c.args.ways.now c.args.step
    ∙ ap (λ b. b || list_any (goes_from (bound_by c.args.step)) c.args.ways.now)
    (ap (λ v. list_any (λ (expr : Expr). read_var expr == v) c.args.exprs.now) (sym c.bound-var.ensures) ∙ sym c.is_taken.ensures ∙ c.if-is_taken.false))
