use Rattle.std.proofs.Common.{◌≡◌, false, take}
use Rattle.std.specs.List.{list_any}
use Rattle.pgs_match.specs.Branches.{is_between}
use Rattle.pgs_match.proofs.trees.has_step.Given as goal

abbrev pub invariant-loop-step : goal.invariant-loop-step
invariant-loop-step l = list_any (is_between l.edge l.node l.source) (take l.step-index l.plan) ≡ false
