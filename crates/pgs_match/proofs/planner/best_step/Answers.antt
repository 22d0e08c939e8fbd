use Rattle.std.proofs.Common.{◌∙◌, true, false, sym, ap, subst, take, ◌+◌}
use Rattle.pgs_match.specs.Plans.{is_step, step_at, better, IsBestOf}
use Rattle.pgs_match.proofs.Along.{take_whole}
use Rattle.pgs_match.proofs.Choosing.{best_more}
use Rattle.pgs_match.proofs.planner.best_step.Goals as goal

pub loop-atom-preserved : goal.loop-atom-preserved
loop-atom-preserved c =
    let atoms = c.args.atoms.now in
    let known = c.args.known.now in
    let at_source = c.step_at-at_source.ensures ∙ ap (step_at known true) c.atom-item.is in
    let at_target = c.step_at-at_target.ensures ∙ ap (step_at known false) c.atom-item.is in
    let with_source = c.better-with_source.ensures ∙ ap (better atoms c.loop-atom.best) at_source in
    subst (IsBestOf atoms (is_step (take (c.loop-atom.atom-index + 1) atoms) known))
    (sym (c.better-best.ensures ∙ λ i. better atoms (with_source i) (at_target i)))
    (best_more atoms known c.loop-atom.atom-index c.atom-item.result c.loop-atom-test.true c.loop-atom.best c.loop-atom.invariant)

pub returns : goal.returns
returns c =
    subst (λ atoms. IsBestOf c.args.atoms.now (is_step atoms c.args.known.now) c.loop-atom.best)
    (take_whole c.args.atoms.now c.loop-atom.atom-index c.loop-atom-test.false) c.loop-atom.invariant
