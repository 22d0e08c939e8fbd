use Rattle.std.proofs.Common.{◌≡◌, ◌++◌, take}
use Rattle.std.specs.List.{flat_map}
use Rattle.pgs_resolve_declared.specs.Refused.{uses_in_step}
use Rattle.pgs_resolve_declared.proofs.kinds.use_steps.Given as goal

abbrev pub invariant-loop-step : goal.invariant-loop-step
invariant-loop-step l = l.uses.items ≡ l.fn.uses.items ++ flat_map uses_in_step (take l.step-index l.steps)
