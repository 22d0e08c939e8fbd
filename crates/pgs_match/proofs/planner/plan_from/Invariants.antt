use Rattle.std.proofs.Common.{◌≡◌, true, length}
use Rattle.pgs_match.specs.Plans.{is_known, known_alone, are_steps, known_after, AreBest}
use Rattle.pgs_match.proofs.Counts.{left}
use Rattle.pgs_match.proofs.planner.plan_from.Given as goal

abbrev pub invariant-loop-step : goal.invariant-loop-step
invariant-loop-step l = record {
  steps : are_steps l.atoms (known_alone l.start) l.plan.items ≡ true;
  best : AreBest l.atoms (known_alone l.start) l.plan.items;
  after : l.known ≡ known_after (known_alone l.start) l.plan.items;
  size : length l.known ≡ 20;
  begun : is_known l.known l.start ≡ true;
}

abbrev pub decreases-loop-step : goal.decreases-loop-step
decreases-loop-step l = left (λ kind. 1) l.pattern.edge_vars l.known
