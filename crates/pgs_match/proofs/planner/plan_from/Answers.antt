use Rattle.std.proofs.Common.{◌≡◌, true, [], ◌∷◌, ◌++◌, ◌∙◌, sym, ap, subst, arith}
use Rattle.std.specs.List.{list_all}
use Rattle.std.proofs.lemmas.List.{length-set}
use Rattle.pgs_match.specs.Plans.{bound_by, known_alone, and_known, known_after, is_closed_at, is_step, are_steps, is_known, is_plan, IsBest, AreBest}
use Rattle.pgs_match.proofs.Choosing.{all_closed, best_steps_more}
use Rattle.pgs_match.proofs.Counts.{one_less}
use Rattle.pgs_match.proofs.Known.{step_bounds, steps_more, after_more, known_still, all_known}
use Rattle.pgs_match.proofs.planner.plan_from.Goals as goal

pub bounds-known-bound : goal.bounds-known-bound
bounds-known-bound c =
    (step_bounds c.args.pattern.now c.as_slice-atoms.result.now c.loop-step.known c.in-Some.step c.bound.result c.requires.valid c.as_slice-atoms.ensures c.bound.ensures c.in-Some.ensures.0).1

pub loop-step-smaller : goal.loop-step-smaller
loop-step-smaller c =
    let bounds =
    step_bounds c.args.pattern.now c.as_slice-atoms.result.now c.loop-step.known c.in-Some.step c.bound.result c.requires.valid c.as_slice-atoms.ensures c.bound.ensures c.in-Some.ensures.0 in
    one_less c.args.pattern.now.edge_vars c.loop-step.known c.bound.result bounds.0 bounds.2 (omega (arith, bounds.1, c.loop-step.invariant.size))

pub loop-step-preserved : goal.loop-step-preserved
loop-step-preserved c =
    let pushed : c.push.new.self.items ≡ c.loop-step.plan.items ++ c.in-Some.step ∷ [] = c.in_ok-push.ensures.items in
    let before = c.loop-step.invariant in
    record {
      steps =
          subst (λ plan. are_steps c.as_slice-atoms.result.now (known_alone c.args.start) plan ≡ true) (sym pushed)
          (steps_more c.as_slice-atoms.result.now (known_alone c.args.start) c.loop-step.plan.items c.in-Some.step before.steps
          (subst (λ known. is_step c.as_slice-atoms.result.now known c.in-Some.step ≡ true) before.after c.in-Some.ensures.0));
      best =
          subst (AreBest c.as_slice-atoms.result.now (known_alone c.args.start)) (sym pushed)
          (best_steps_more c.as_slice-atoms.result.now (known_alone c.args.start) c.loop-step.plan.items c.in-Some.step before.best
          (subst (λ known. IsBest c.as_slice-atoms.result.now (is_step c.as_slice-atoms.result.now known) c.in-Some.step) before.after c.in-Some.ensures));
      after =
          ap (λ var. and_known c.loop-step.known var) c.bound.ensures ∙ ap (λ known. and_known known (bound_by c.in-Some.step)) before.after
          ∙ sym (after_more (known_alone c.args.start) c.loop-step.plan.items c.in-Some.step) ∙ ap (known_after (known_alone c.args.start)) (sym pushed);
      size = length-set c.loop-step.known c.bound.result true ∙ before.size;
      begun = known_still c.loop-step.known c.bound.result c.args.start before.begun;
    }

pub returns-clause-plan : goal.returns-clause-plan
returns-clause-plan c =
    let before = c.loop-step.invariant in
    let same = c.as_slice-atoms.ensures in
    subst (λ plan. is_plan c.args.pattern.now c.args.start plan ≡ true) (sym c.from_vec.ensures)
    (all_known c.args.pattern.now c.args.start (known_alone c.args.start) c.loop-step.plan.items c.requires.valid c.requires.in_range
    (subst (λ atoms. are_steps atoms (known_alone c.args.start) c.loop-step.plan.items ≡ true) same before.steps)
    (subst (λ known. is_known known c.args.start ≡ true) before.after before.begun)
    (subst (λ known. list_all (is_closed_at known) c.args.pattern.now.atoms ≡ true) before.after
    (subst (λ atoms. list_all (is_closed_at c.loop-step.known) atoms ≡ true) same (all_closed c.as_slice-atoms.result.now c.loop-step.known c.in_default.ensures))))

pub returns-clause-best : goal.returns-clause-best
returns-clause-best c =
    subst (AreBest c.args.pattern.now.atoms (known_alone c.args.start)) (sym c.from_vec.ensures)
    (subst (λ atoms. AreBest atoms (known_alone c.args.start) c.loop-step.plan.items) c.as_slice-atoms.ensures c.loop-step.invariant.best)
