use Rattle.std.proofs.Common.{◌≡◌, List, IfOk, ap, subst, ◌∙◌}
use Rattle.pgs_syntax.specs.declared.pattern.Expr.{Expr}
use Rattle.pgs_syntax.specs.declared.pattern.Pattern.{Pattern}
use Rattle.pgs_key_standing.specs.declared.placed.Placed.{Placed}
use Rattle.pgs_key_standing.specs.Joint.{joint, with_ends, placed_of}
use Rattle.pgs_key_standing.proofs.joint.value_places.Goals as goal

pub returns : goal.returns
returns c =
    subst (λ (all : Placed). IfOk c.placed_of.result (λ placed. placed ≡ all))
    (ap (λ (p : Pattern). placed_of p c.as_slice.result.now) (c.in_ok-pattern.ensures.same ∙ ap with_ends c.in_ok-both.ensures)
    ∙ ap (λ (exprs : List Expr). placed_of (with_ends (joint c.args.key.now)) exprs) (c.as_slice.ensures.value ∙ c.in_ok-exprs.ensures))
    c.placed_of.ensures
