use Rattle.std.proofs.Common.{◌≡◌, ◌+◌, [], ◌∷◌, ◌++◌, length, sym, subst, length-append, arith}
use Rattle.pgs_match.specs.Planned.{ArePlansFrom}
use Rattle.pgs_match.proofs.Plans.{one_plan_more}
use Rattle.pgs_match.proofs.planned.plan_pattern.Goals as goal

pub loop-var-preserved : goal.loop-var-preserved
loop-var-preserved c =
    let pushed : c.push.new.self.items ≡ c.loop-var.plans.items ++ c.in_ok-plan.plan ∷ [] = c.in_ok-push.ensures.items in
    let before = c.loop-var.invariant in
    record {
      plans =
          subst (ArePlansFrom c.args.pattern.now 0) (sym pushed)
          (one_plan_more c.args.pattern.now c.loop-var.var c.loop-var.plans.items c.in_ok-plan.plan before.plans before.size c.in_ok-plan.ensures);
      size = subst (λ plans. length plans ≡ c.loop-var.var + 1) (sym pushed) (omega (arith, before.size, length-append c.loop-var.plans.items (c.in_ok-plan.plan ∷ [])));
    }
