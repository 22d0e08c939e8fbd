use Rattle.std.proofs.Common.{◌+◌, ◌≤◌, Some, sym, ap, ◌∙◌, subst, arith}
use Rattle.pgs_match.specs.declared.bindings.Bound.TheVariants as bounds
use Rattle.pgs_match.specs.Search.{edges_along}
use Rattle.pgs_match.proofs.Along.{can_with, can_by, steps_with, steps_by, none_more, one_found, none_at_all, steps_along, past_end, at_place, cost_more, cost_all}
use Rattle.pgs_match.proofs.Few.{few_along}
use Rattle.pgs_match.proofs.search.Search.+complete.Goals as goal

pub can_complete_along-returns-then-can_complete_with-clause-found : goal.can_complete_along-returns-then-can_complete_with-clause-found
can_complete_along-returns-then-can_complete_with-clause-found g t c =
    let graph = g.G.GraphRead.meaning c.args.self.now.graph.now in
    sym (one_found (can_with c.args.self.now.compiled.now graph c.args.self.now.atoms.now c.args.branch.now.plan.now c.args.branch.now.bindings.now c.args.branch.now.var)
    (edges_along graph c.args.forward (Some (bounds.Node c.args.from))) c.loop-nth.nth c.in-Some.id (sym c.in-Some.ensures.value)
    (sym (can_by c.args.self.now.compiled.now graph c.args.self.now.atoms.now c.args.branch.now.plan.now c.args.branch.now.bindings.now c.args.branch.now.var c.in-Some.id c.admit_edge-admitted.result c.admit_edge-admitted.ensures.value) ∙ sym c.can_complete_with.ensures.found ∙ c.if-can_complete_with.true))

pub can_complete_along-returns-then-can_complete_with-clause-cost : goal.can_complete_along-returns-then-can_complete_with-clause-cost
can_complete_along-returns-then-can_complete_with-clause-cost g t c =
    let graph = g.G.GraphRead.meaning c.args.self.now.graph.now in
    let by = steps_by c.args.self.now.compiled.now graph c.args.self.now.atoms.now c.args.branch.now.plan.now c.args.branch.now.bindings.now c.args.branch.now.var 0 c.in-Some.id c.admit_edge-admitted.result
    c.admit_edge-admitted.ensures.value c.edge_along.new.steps c.admit_edge-admitted.new.steps c.can_complete_with.new.steps
    c.admit_edge-admitted.ensures.at_most c.can_complete_with.ensures.cost in
    cost_all (steps_with c.args.self.now.compiled.now graph c.args.self.now.atoms.now c.args.branch.now.plan.now c.args.branch.now.bindings.now c.args.branch.now.var 0)
    (edges_along graph c.args.forward (Some (bounds.Node c.args.from))) c.loop-nth.nth c.in-Some.id (sym c.in-Some.ensures.value)
    c.args.steps.now c.loop-nth.steps c.can_complete_with.new.steps c.loop-nth.invariant.cost (omega (arith, c.edge_along.ensures.tick, by))

pub can_complete_along-returns-in-None-clause-found : goal.can_complete_along-returns-in-None-clause-found
can_complete_along-returns-in-None-clause-found g t c =
    let graph = g.G.GraphRead.meaning c.args.self.now.graph.now in
    let ids = edges_along graph c.args.forward (Some (bounds.Node c.args.from)) in
    sym (none_at_all (can_with c.args.self.now.compiled.now graph c.args.self.now.atoms.now c.args.branch.now.plan.now c.args.branch.now.bindings.now c.args.branch.now.var)
    ids c.loop-nth.nth (past_end ids c.loop-nth.nth (sym c.in-None.ensures.value)) c.loop-nth.invariant.none)

pub can_complete_along-loop-nth-preserved : goal.can_complete_along-loop-nth-preserved
can_complete_along-loop-nth-preserved g t c =
    let graph = g.G.GraphRead.meaning c.args.self.now.graph.now in
    let ids = edges_along graph c.args.forward (Some (bounds.Node c.args.from)) in
    let before = c.loop-nth.invariant in
    let tick = c.edge_along.ensures.tick in
    let with = c.can_complete_with.ensures in
    let by = steps_by c.args.self.now.compiled.now graph c.args.self.now.atoms.now c.args.branch.now.plan.now c.args.branch.now.bindings.now c.args.branch.now.var 0 c.in-Some.id c.admit_edge-admitted.result
    c.admit_edge-admitted.ensures.value c.edge_along.new.steps c.admit_edge-admitted.new.steps c.can_complete_with.new.steps
    c.admit_edge-admitted.ensures.at_most c.can_complete_with.ensures.cost in
    record {
      none =
          none_more (can_with c.args.self.now.compiled.now graph c.args.self.now.atoms.now c.args.branch.now.plan.now c.args.branch.now.bindings.now c.args.branch.now.var) ids c.loop-nth.nth c.in-Some.id
          (sym c.in-Some.ensures.value) before.none (sym (can_by c.args.self.now.compiled.now graph c.args.self.now.atoms.now c.args.branch.now.plan.now c.args.branch.now.bindings.now c.args.branch.now.var c.in-Some.id c.admit_edge-admitted.result c.admit_edge-admitted.ensures.value) ∙ sym with.found ∙ c.if-can_complete_with.false);
      reached = let place = at_place ids c.loop-nth.nth c.in-Some.id (sym c.in-Some.ensures.value) in omega (arith, place.0);
      no_step_back = omega (arith, tick, c.admit_edge-admitted.ensures.no_step_back, with.no_step_back, before.no_step_back);
      cost =
          cost_more (steps_with c.args.self.now.compiled.now graph c.args.self.now.atoms.now c.args.branch.now.plan.now c.args.branch.now.bindings.now c.args.branch.now.var 0) ids c.loop-nth.nth c.in-Some.id
          (sym c.in-Some.ensures.value) c.args.steps.now c.loop-nth.steps c.can_complete_with.new.steps before.cost (omega (arith, tick, by));
    }

pub can_complete_along-returns-clause-found : goal.can_complete_along-returns-clause-found
can_complete_along-returns-clause-found g t c =
    let graph = g.G.GraphRead.meaning c.args.self.now.graph.now in
    let ids = edges_along graph c.args.forward (Some (bounds.Node c.args.from)) in
    sym (none_at_all (can_with c.args.self.now.compiled.now graph c.args.self.now.atoms.now c.args.branch.now.plan.now c.args.branch.now.bindings.now c.args.branch.now.var)
    ids c.loop-nth.nth (omega (arith, few_along graph c.args.from c.args.forward, c.count-nth-end.ensures.value, c.loop-nth-test.false)) c.loop-nth.invariant.none)

pub can_complete-returns-in-Some-Node-clause-cost : goal.can_complete-returns-in-Some-Node-clause-cost
can_complete-returns-in-Some-Node-clause-cost g t c =
    let next = c.in-Some-Along-default in
    subst (λ n. c.can_complete_along.new.steps ≤ c.args.steps.now + n)
    (steps_along c.args.self.now.compiled.now (g.G.GraphRead.meaning c.args.self.now.graph.now) c.args.self.now.atoms.now c.args.plan.now next.branch.plan.now c.args.bindings.now
    next.branch.bindings.now next.field-0-0 next.field-0-0-0 next.node next.branch.var next.forward c.in-Some-Node.from next.ensures.plan next.field-0-0-is next.ensures.var next.ensures.bindings (ap (λ bound. Some bound) (sym c.in-Some-Node.field-0-is) ∙ c.in-Some-Node.ensures) 0)
    c.can_complete_along.ensures.cost
