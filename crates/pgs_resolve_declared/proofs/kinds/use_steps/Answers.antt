use Rattle.std.proofs.Common.{refl}
use Rattle.pgs_resolve_declared.specs.Refused.{uses_in_step}
use Rattle.pgs_resolve_declared.proofs.Walks.{none_yet, more_of, all_of}
use Rattle.pgs_resolve_declared.proofs.kinds.use_steps.Goals as goal

pub loop-step-init : goal.loop-step-init
loop-step-init c = none_yet c.args.uses.now.items

pub loop-step-preserved : goal.loop-step-preserved
loop-step-preserved c =
    more_of uses_in_step c.args.uses.now.items c.args.steps.now c.loop-step.step-index c.step-item.result c.loop-step.uses.items c.use_step.new.uses.items
    c.loop-step-test.true c.step-item.is c.loop-step.invariant c.in_ok-use_step.ensures

pub returns : goal.returns
returns c =
    all_of uses_in_step c.args.uses.now.items c.args.steps.now c.args.steps.now c.loop-step.step-index c.loop-step.uses.items c.loop-step-test.false refl c.loop-step.invariant
