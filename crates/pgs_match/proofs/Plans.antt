-- Plans of a pattern: of one variable more, and that of a variable.
use Rattle.std.proofs.Common.{◌≡◌, ℕ, zero, suc, ◌+◌, List, [], ◌∷◌, ◌++◌, length, slice_get, Some, sym, subst, add-zero, arith}
use Rattle.pgs_syntax.specs.declared.pattern.Pattern.{Pattern}
use Rattle.pgs_match.specs.declared.plan.Plan.{Plan}
use Rattle.pgs_match.specs.Planned.{IsSplit, ArePlansFrom, ArePlans}

module _ (pattern : Pattern) where
  plans_more : (var : ℕ) (plans : List Plan) (plan : Plan) → ArePlansFrom pattern var plans → IsSplit (0 ∷ []) pattern (var + length plans) plan → ArePlansFrom pattern var (plans ++ plan ∷ [])
  plans_more var [] plan all one = (subst (λ v. IsSplit (0 ∷ []) pattern v plan) (add-zero var) one, tt)
  plans_more var (first ∷ plans) plan all one =
      let same : var + length (first ∷ plans) ≡ suc var + length plans = omega arith in
      (all.0, plans_more (suc var) plans plan all.1 (subst (λ v. IsSplit (0 ∷ []) pattern v plan) same one))

  pub one_plan_more : (var : ℕ) (plans : List Plan) (plan : Plan) → ArePlansFrom pattern 0 plans → length plans ≡ var → IsSplit (0 ∷ []) pattern var plan → ArePlansFrom pattern 0 (plans ++ plan ∷ [])
  one_plan_more var plans plan all size one =
      let same : var ≡ 0 + length plans = omega arith in plans_more 0 plans plan all (subst (λ v. IsSplit (0 ∷ []) pattern v plan) same one)

  plan_from : (start : ℕ) (plans : List Plan) (i : ℕ) (plan : Plan) → ArePlansFrom pattern start plans → slice_get plans i ≡ Some plan → IsSplit (0 ∷ []) pattern (start + i) plan
  plan_from start [] i plan all at = cc
  plan_from start (first ∷ plans) zero plan all at =
      let same : first ≡ plan = cc in
      subst (λ v. IsSplit (0 ∷ []) pattern v plan) (sym (add-zero start)) (subst (IsSplit (0 ∷ []) pattern start) same all.0)
  plan_from start (first ∷ plans) (suc i) plan all at =
      let same : suc start + i ≡ start + suc i = omega arith in
      subst (λ v. IsSplit (0 ∷ []) pattern v plan) same (plan_from (suc start) plans i plan all.1 at)

  -- the plan at a place is one from the variable
  pub planned_at : (plans : List Plan) (var : ℕ) (plan : Plan) → ArePlans pattern plans → slice_get plans var ≡ Some plan → IsSplit (0 ∷ []) pattern var plan
  planned_at plans var plan all at =
      let same : 0 + var ≡ var = omega arith in
      subst (λ v. IsSplit (0 ∷ []) pattern v plan) same (plan_from 0 plans var plan all.1 at)
