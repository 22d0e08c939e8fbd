use Rattle.std.proofs.Common.{◌∷◌, [], true, refl}
use Rattle.pgs_syntax.specs.declared.raw.RawStep.{RawStep}
use Rattle.pgs_resolve_declared.proofs.Walks.{both_put, more_of, all_of}
use Rattle.pgs_key_causes.proofs.written.push_directions.Goals as goal

pub loop-step-preserved : goal.loop-step-preserved
loop-step-preserved c =
    more_of (λ (step : RawStep). step.forward ∷ true ∷ []) c.args.directions.now.items c.args.steps.now c.loop-step.step-index c.step-item.result
    c.loop-step.directions.items _ c.loop-step-test.true c.step-item.is c.loop-step.invariant
    (both_put c.loop-step.directions.items _ _ (c.step-item.result.forward ∷ []) (true ∷ []) c.in_ok-push.ensures.items c.in_ok-push-2.ensures.items)

pub returns : goal.returns
returns c =
    all_of (λ (step : RawStep). step.forward ∷ true ∷ []) c.args.directions.now.items c.args.steps.now c.args.steps.now c.loop-step.step-index
    c.loop-step.directions.items c.loop-step-test.false refl c.loop-step.invariant
