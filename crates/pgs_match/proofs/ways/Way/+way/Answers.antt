use Rattle.std.proofs.Common.{◌≡◌, ◌+◌, ◌≤◌, OnOk, Some, fold, length, sym, ap, ◌∙◌, subst, arith}
use Rattle.pgs_match.specs.declared.bindings.Bound.TheVariants as bounds
use Rattle.pgs_match.specs.Routes.{with_tuple}
use Rattle.pgs_match.specs.Search.{edges_along}
use Rattle.pgs_match.proofs.Along.{fold_one_more, fold_all, past_end, at_place, cost_more, cost_all}
use Rattle.pgs_match.proofs.Few.{few_along}
use Rattle.pgs_match.proofs.WaySteps.{routes_with, tuples_with, tuples_by, way_with, way_by, fold_flat, routes_along, most_along}
use Rattle.pgs_match.proofs.ways.Way.+way.Goals as goal

pub gather_along-returns-in_err-gather_with-in-Some-clause-cost : goal.gather_along-returns-in_err-gather_with-in-Some-clause-cost
gather_along-returns-in_err-gather_with-in-Some-clause-cost g t c =
    let search = c.args.self.now.gathering.search in
    let graph = g.G.GraphRead.meaning search.graph.now in
    let many = length c.args.self.now.gathering.exprs.now in
    let by = way_by search.compiled.now graph search.atoms.now c.args.self.now.off.now c.args.branch.now.plan.now c.args.branch.now.bindings.now c.args.branch.now.var many c.in-Some.id c.admit_edge-admitted.result
    c.admit_edge-admitted.ensures.value c.edge_along.new.steps c.admit_edge-admitted.new.steps c.gather_with.new.steps
    c.admit_edge-admitted.ensures.at_most c.gather_with.ensures.cost in
    cost_all (way_with search.compiled.now graph search.atoms.now c.args.self.now.off.now c.args.branch.now.plan.now c.args.branch.now.bindings.now c.args.branch.now.var many)
    (edges_along graph c.args.forward (Some (bounds.Node c.args.from))) c.loop-nth.nth c.in-Some.id (sym c.in-Some.ensures.value)
    c.args.steps.now c.loop-nth.steps c.gather_with.new.steps c.loop-nth.invariant.cost (omega (arith, c.edge_along.ensures.tick, by))

pub gather_along-returns-in-None-clause-ok : goal.gather_along-returns-in-None-clause-ok
gather_along-returns-in-None-clause-ok g t c =
    let search = c.args.self.now.gathering.search in
    let graph = g.G.GraphRead.meaning search.graph.now in
    let exprs = c.args.self.now.gathering.exprs.now in
    let ids = edges_along graph c.args.forward (Some (bounds.Node c.args.from)) in
    c.loop-nth.invariant.so_far
    ∙ fold_all (tuples_with search.compiled.now graph search.atoms.now c.args.self.now.off.now c.args.branch.now.plan.now c.args.branch.now.bindings.now c.args.branch.now.var exprs) c.args.tuples.now ids c.loop-nth.nth
    (past_end ids c.loop-nth.nth (sym c.in-None.ensures.value))
    ∙ sym (fold_flat (with_tuple graph exprs) (routes_with search.compiled.now graph search.atoms.now c.args.self.now.off.now c.args.branch.now.plan.now c.args.branch.now.bindings.now c.args.branch.now.var) c.args.tuples.now ids)

pub gather_along-loop-nth-preserved : goal.gather_along-loop-nth-preserved
gather_along-loop-nth-preserved g t c =
    let search = c.args.self.now.gathering.search in
    let graph = g.G.GraphRead.meaning search.graph.now in
    let exprs = c.args.self.now.gathering.exprs.now in
    let ids = edges_along graph c.args.forward (Some (bounds.Node c.args.from)) in
    let f = tuples_with search.compiled.now graph search.atoms.now c.args.self.now.off.now c.args.branch.now.plan.now c.args.branch.now.bindings.now c.args.branch.now.var exprs in
    let before = c.loop-nth.invariant in
    let admitted = c.admit_edge-admitted.ensures in
    let by = way_by search.compiled.now graph search.atoms.now c.args.self.now.off.now c.args.branch.now.plan.now c.args.branch.now.bindings.now c.args.branch.now.var (length exprs) c.in-Some.id c.admit_edge-admitted.result
    admitted.value c.edge_along.new.steps c.admit_edge-admitted.new.steps c.gather_with.new.steps admitted.at_most c.gather_with.ensures.cost in
    record {
      so_far =
          c.in_ok-gather_with-in-Some.ensures.ok
          ∙ tuples_by search.compiled.now graph search.atoms.now c.args.self.now.off.now c.args.branch.now.plan.now c.args.branch.now.bindings.now c.args.branch.now.var exprs c.loop-nth.tuples c.in-Some.id c.admit_edge-admitted.result admitted.value
          ∙ ap (λ so_far. f so_far c.in-Some.id) before.so_far ∙ fold_one_more f c.args.tuples.now ids c.loop-nth.nth c.in-Some.id (sym c.in-Some.ensures.value);
      reached = let place = at_place ids c.loop-nth.nth c.in-Some.id (sym c.in-Some.ensures.value) in omega (arith, place.0);
      no_step_back = omega (arith, c.edge_along.ensures.tick, admitted.no_step_back, c.gather_with.ensures.no_step_back, before.no_step_back);
      cost =
          cost_more (way_with search.compiled.now graph search.atoms.now c.args.self.now.off.now c.args.branch.now.plan.now c.args.branch.now.bindings.now c.args.branch.now.var (length exprs)) ids c.loop-nth.nth c.in-Some.id
          (sym c.in-Some.ensures.value) c.args.steps.now c.loop-nth.steps c.gather_with.new.steps before.cost (omega (arith, c.edge_along.ensures.tick, by));
    }

pub gather_along-returns-clause-ok : goal.gather_along-returns-clause-ok
gather_along-returns-clause-ok g t c =
    let search = c.args.self.now.gathering.search in
    let graph = g.G.GraphRead.meaning search.graph.now in
    let exprs = c.args.self.now.gathering.exprs.now in
    let ids = edges_along graph c.args.forward (Some (bounds.Node c.args.from)) in
    c.loop-nth.invariant.so_far
    ∙ fold_all (tuples_with search.compiled.now graph search.atoms.now c.args.self.now.off.now c.args.branch.now.plan.now c.args.branch.now.bindings.now c.args.branch.now.var exprs) c.args.tuples.now ids c.loop-nth.nth
    (omega (arith, few_along graph c.args.from c.args.forward, c.count-nth-end.ensures.value, c.loop-nth-test.false))
    ∙ sym (fold_flat (with_tuple graph exprs) (routes_with search.compiled.now graph search.atoms.now c.args.self.now.off.now c.args.branch.now.plan.now c.args.branch.now.bindings.now c.args.branch.now.var) c.args.tuples.now ids)

pub gather-returns-in-Some-Node-clause-ok : goal.gather-returns-in-Some-Node-clause-ok
gather-returns-in-Some-Node-clause-ok g t c =
    let search = c.args.self.now.gathering.search in
    let graph = g.G.GraphRead.meaning search.graph.now in
    let exprs = c.args.self.now.gathering.exprs.now in
    let next = c.in-Some-Along-default in
    subst (λ list. OnOk c.gather_along.result (c.gather_along.new.tuples ≡ fold (with_tuple graph exprs) c.args.tuples.now list))
    (routes_along search.compiled.now graph search.atoms.now c.args.self.now.off.now c.args.ways.now next.branch.plan.now c.args.bindings.now next.branch.bindings.now next.field-0-0 next.field-0-0-0
    next.node next.branch.var next.forward c.in-Some-Node.from next.ensures.plan next.field-0-0-is next.ensures.var next.ensures.bindings (ap (λ bound. Some bound) (sym c.in-Some-Node.field-0-is) ∙ c.in-Some-Node.ensures))
    c.gather_along.ensures.ok

pub gather-returns-in-Some-Node-clause-cost : goal.gather-returns-in-Some-Node-clause-cost
gather-returns-in-Some-Node-clause-cost g t c =
    let search = c.args.self.now.gathering.search in
    let next = c.in-Some-Along-default in
    subst (λ n. c.gather_along.new.steps ≤ c.args.steps.now + n)
    (most_along search.compiled.now (g.G.GraphRead.meaning search.graph.now) search.atoms.now c.args.self.now.off.now c.args.ways.now next.branch.plan.now c.args.bindings.now next.branch.bindings.now next.field-0-0 next.field-0-0-0
    next.node next.branch.var next.forward c.in-Some-Node.from next.ensures.plan next.field-0-0-is next.ensures.var next.ensures.bindings (ap (λ bound. Some bound) (sym c.in-Some-Node.field-0-is) ∙ c.in-Some-Node.ensures) (length c.args.self.now.gathering.exprs.now))
    c.gather_along.ensures.cost
