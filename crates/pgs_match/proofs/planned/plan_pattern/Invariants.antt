use Rattle.std.proofs.Common.{◌≡◌, length}
use Rattle.pgs_match.specs.Planned.{ArePlansFrom}
use Rattle.pgs_match.proofs.planned.plan_pattern.Given as goal

abbrev pub invariant-loop-var : goal.invariant-loop-var
invariant-loop-var l = record {
  plans : ArePlansFrom l.pattern 0 l.plans.items;
  size : length l.plans.items ≡ l.var;
}
