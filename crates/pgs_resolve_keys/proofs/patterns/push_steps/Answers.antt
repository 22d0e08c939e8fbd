use Rattle.std.proofs.Common.{refl, arith}
use Rattle.pgs_resolve_keys.specs.Patterns.{number_of}
use Rattle.pgs_resolve_keys.proofs.Stepped.{more_steps}
use Rattle.pgs_resolve_keys.proofs.patterns.push_steps.Goals as goal

pub loop-step-preserved : goal.loop-step-preserved
loop-step-preserved c = record {
  at = omega arith;
  atoms = λ held holds.
      more_steps c.args.numbering.now (number_of held) c.args.steps.now c.loop-step.step-index c.step-item.result c.loop-step.node _ c.loop-step.place _ _
      c.loop-step.atoms.items _ (omega arith) c.step-item.is (c.in_ok-node.ensures.next held holds) refl (c.loop-step.invariant.atoms held holds)
      (c.in_ok-node.ensures.atoms held holds);
}
