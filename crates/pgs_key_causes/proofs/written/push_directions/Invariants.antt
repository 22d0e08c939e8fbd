use Rattle.std.proofs.Common.{◌≡◌, ◌++◌, ◌∷◌, [], true, take}
use Rattle.std.specs.List.{flat_map}
use Rattle.pgs_syntax.specs.declared.raw.RawStep.{RawStep}
use Rattle.pgs_key_causes.proofs.written.push_directions.Given as goal

abbrev pub invariant-loop-step : goal.invariant-loop-step
invariant-loop-step l =
    l.directions.items ≡ l.fn.directions.items ++ flat_map (λ (step : RawStep). step.forward ∷ true ∷ []) (take l.step-index l.steps)
