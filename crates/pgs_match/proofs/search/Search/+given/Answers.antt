use Rattle.std.proofs.Common.{◌≡◌, ◌||◌, ◌+◌, ◌≤◌, true, Bool, not, cond, Some, sym, ap, ◌∙◌, subst, arith}
use Rattle.pgs_match.specs.declared.bindings.Bound.TheVariants as bounds
use Rattle.pgs_match.specs.Branches.{goes_from}
use Rattle.pgs_match.specs.Search.{edges_along}
use Rattle.pgs_match.proofs.Along.{none_more, one_found, none_at_all, past_end, at_place, cost_more, cost_all}
use Rattle.pgs_match.proofs.BranchSteps.{given_with, given_by, asked_with, asked_by, any_next, next_most, edge_branch, edge_branch_most}
use Rattle.pgs_match.proofs.Few.{few_along}
use Rattle.pgs_match.proofs.search.Search.+given.Goals as goal

pub branch_can-returns-in-Node-clause-found : goal.branch_can-returns-in-Node-clause-found
branch_can-returns-in-Node-clause-found g t c =
    let graph = g.G.GraphRead.meaning c.args.self.now.graph.now in
    let from : goes_from c.args.var c.args.step ≡ true = sym c.goes_from.ensures ∙ c.if-not-goes_from.false in
    c.edge_can.ensures.found
    ∙ edge_branch c.args.self.now.compiled.now graph c.args.self.now.atoms.now c.args.rest.now c.args.step c.args.bound c.in-Along.edge c.in-Along.node c.in-Along.forward c.in-Node.from c.in-Along.is c.in-Node.is
    ∙ sym (ap (λ (b : Bool). not b || any_next c.args.self.now.compiled.now graph c.args.self.now.atoms.now c.args.rest.now c.args.step c.args.bound) from)

pub branch_can-returns-in-Node-clause-cost : goal.branch_can-returns-in-Node-clause-cost
branch_can-returns-in-Node-clause-cost g t c =
    let graph = g.G.GraphRead.meaning c.args.self.now.graph.now in
    let from : goes_from c.args.var c.args.step ≡ true = sym c.goes_from.ensures ∙ c.if-not-goes_from.false in
    let most = edge_branch_most c.args.self.now.compiled.now graph c.args.self.now.atoms.now c.args.rest.now c.args.step c.args.bound c.in-Along.edge c.in-Along.node c.in-Along.forward c.in-Node.from c.in-Along.is c.in-Node.is in
    subst (λ (b : Bool). c.edge_can.new.steps ≤ c.args.steps.now + cond b (next_most c.args.self.now.compiled.now graph c.args.self.now.atoms.now c.args.rest.now c.args.step c.args.bound) 0) (sym from)
    (subst (λ n. c.edge_can.new.steps ≤ c.args.steps.now + n) most c.edge_can.ensures.cost)

pub edge_can-returns-then-next_can-clause-found : goal.edge_can-returns-then-next_can-clause-found
edge_can-returns-then-next_can-clause-found g t c =
    let graph = g.G.GraphRead.meaning c.args.self.now.graph.now in
    sym (one_found (given_with c.args.self.now.compiled.now graph c.args.self.now.atoms.now c.args.rest.now c.args.var)
    (edges_along graph c.args.forward (Some (bounds.Node c.args.from))) c.loop-nth.nth c.in-Some.id (sym c.in-Some.ensures.value)
    (sym (given_by c.args.self.now.compiled.now graph c.args.self.now.atoms.now c.args.rest.now c.args.var c.in-Some.id c.admit_edge-admitted.result c.admit_edge-admitted.ensures.value) ∙ sym c.next_can.ensures.found ∙ c.if-next_can.true))

pub edge_can-returns-then-next_can-clause-cost : goal.edge_can-returns-then-next_can-clause-cost
edge_can-returns-then-next_can-clause-cost g t c =
    let graph = g.G.GraphRead.meaning c.args.self.now.graph.now in
    let by = asked_by c.args.self.now.compiled.now graph c.args.self.now.atoms.now c.args.rest.now c.args.var c.in-Some.id c.admit_edge-admitted.result
    c.admit_edge-admitted.ensures.value c.edge_along.new.steps c.admit_edge-admitted.new.steps c.next_can.new.steps
    c.admit_edge-admitted.ensures.at_most c.next_can.ensures.cost in
    cost_all (asked_with c.args.self.now.compiled.now graph c.args.self.now.atoms.now c.args.rest.now c.args.var)
    (edges_along graph c.args.forward (Some (bounds.Node c.args.from))) c.loop-nth.nth c.in-Some.id (sym c.in-Some.ensures.value)
    c.args.steps.now c.loop-nth.steps c.next_can.new.steps c.loop-nth.invariant.cost (omega (arith, c.edge_along.ensures.tick, by))

pub edge_can-returns-in-None-clause-found : goal.edge_can-returns-in-None-clause-found
edge_can-returns-in-None-clause-found g t c =
    let graph = g.G.GraphRead.meaning c.args.self.now.graph.now in
    let ids = edges_along graph c.args.forward (Some (bounds.Node c.args.from)) in
    sym (none_at_all (given_with c.args.self.now.compiled.now graph c.args.self.now.atoms.now c.args.rest.now c.args.var)
    ids c.loop-nth.nth (past_end ids c.loop-nth.nth (sym c.in-None.ensures.value)) c.loop-nth.invariant.none)

pub edge_can-loop-nth-preserved : goal.edge_can-loop-nth-preserved
edge_can-loop-nth-preserved g t c =
    let graph = g.G.GraphRead.meaning c.args.self.now.graph.now in
    let ids = edges_along graph c.args.forward (Some (bounds.Node c.args.from)) in
    let before = c.loop-nth.invariant in
    let tick = c.edge_along.ensures.tick in
    let with = c.next_can.ensures in
    let by = asked_by c.args.self.now.compiled.now graph c.args.self.now.atoms.now c.args.rest.now c.args.var c.in-Some.id c.admit_edge-admitted.result
    c.admit_edge-admitted.ensures.value c.edge_along.new.steps c.admit_edge-admitted.new.steps c.next_can.new.steps
    c.admit_edge-admitted.ensures.at_most c.next_can.ensures.cost in
    record {
      none =
          none_more (given_with c.args.self.now.compiled.now graph c.args.self.now.atoms.now c.args.rest.now c.args.var) ids c.loop-nth.nth c.in-Some.id
          (sym c.in-Some.ensures.value) before.none (sym (given_by c.args.self.now.compiled.now graph c.args.self.now.atoms.now c.args.rest.now c.args.var c.in-Some.id c.admit_edge-admitted.result c.admit_edge-admitted.ensures.value) ∙ sym with.found ∙ c.if-next_can.false);
      reached = let place = at_place ids c.loop-nth.nth c.in-Some.id (sym c.in-Some.ensures.value) in omega (arith, place.0);
      no_step_back = omega (arith, tick, c.admit_edge-admitted.ensures.no_step_back, with.no_step_back, before.no_step_back);
      cost =
          cost_more (asked_with c.args.self.now.compiled.now graph c.args.self.now.atoms.now c.args.rest.now c.args.var) ids c.loop-nth.nth c.in-Some.id
          (sym c.in-Some.ensures.value) c.args.steps.now c.loop-nth.steps c.next_can.new.steps before.cost (omega (arith, tick, by));
    }

pub edge_can-returns-clause-found : goal.edge_can-returns-clause-found
edge_can-returns-clause-found g t c =
    let graph = g.G.GraphRead.meaning c.args.self.now.graph.now in
    let ids = edges_along graph c.args.forward (Some (bounds.Node c.args.from)) in
    sym (none_at_all (given_with c.args.self.now.compiled.now graph c.args.self.now.atoms.now c.args.rest.now c.args.var)
    ids c.loop-nth.nth (omega (arith, few_along graph c.args.from c.args.forward, c.count-nth-end.ensures.value, c.loop-nth-test.false)) c.loop-nth.invariant.none)
