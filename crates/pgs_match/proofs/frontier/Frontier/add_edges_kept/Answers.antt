use Rattle.std.proofs.Common.{◌≡◌, ◌+◌, ◌≤◌, ◌++◌, Some, Vec, Global, length, flat_map, sym, ap, ◌∙◌, arith}
use Rattle.std.specs.List.{Contains}
use Rattle.pgs_match.specs.declared.bindings.Bound.{Bound}
use Rattle.pgs_match.specs.declared.bindings.Bound.TheVariants as bounds
use Rattle.pgs_match.specs.Search.{edges_along}
use Rattle.pgs_match.proofs.Along.{past_end, at_place, take_whole, cost_more, cost_all}
use Rattle.pgs_match.proofs.BranchCosts.{listed_few}
use Rattle.pgs_match.proofs.Few.{few_along}
use Rattle.pgs_match.proofs.Kept.{full_both}
use Rattle.pgs_match.proofs.Leading.{flat_more}
use Rattle.pgs_match.proofs.Behind.{edges_on, edge_more, edge_not, edge_most, edge_cost, edge_in, edges_of_node, paid_edge_on, paid_edges}
use Rattle.pgs_match.proofs.frontier.Frontier.add_edges_kept.Goals.{in-Some-edge_kept+in_ok-push-in-Some, in_default}
use Rattle.pgs_match.proofs.frontier.Frontier.add_edges_kept.Goals as goal

pub returns-in_err-push-in-Some-clause-cost : goal.returns-in_err-push-in-Some-clause-cost
returns-in_err-push-in-Some-clause-cost g c =
    let search = c.args.self.now.asking.search in
    let graph = g.G.GraphRead.meaning search.graph.now in
    let resolved = search.compiled.now in
    let atoms = search.atoms.now in
    let off = c.args.self.now.asking.whole.now in
    let ids = edges_along graph c.args.forward (Some (bounds.Node c.args.from)) in
    let by = edge_cost resolved graph atoms off c.args.var c.in-Some.id c.edge_along.new.steps c.edge_kept.new.steps c.edge_kept.ensures.cost in
    cost_all (edge_most resolved graph atoms off c.args.var) ids c.loop-nth.nth c.in-Some.id (sym c.in-Some.ensures.value) c.args.steps.now c.loop-nth.steps c.edge_kept.new.steps c.loop-nth.invariant.cost
    (omega (arith, c.edge_along.ensures.tick, by))

pub loop-nth-preserved : goal.loop-nth-preserved
loop-nth-preserved g c =
    let search = c.args.self.now.asking.search in
    let graph = g.G.GraphRead.meaning search.graph.now in
    let resolved = search.compiled.now in
    let atoms = search.atoms.now in
    let off = c.args.self.now.asking.whole.now in
    let from = c.args.from in
    let var = c.args.var in
    let ids = edges_along graph c.args.forward (Some (bounds.Node from)) in
    let past = c.loop-nth.invariant in
    let nth = c.loop-nth.nth in
    let id = c.in-Some.id in
    let tick = c.edge_along.ensures.tick in
    let asked = c.edge_kept.ensures in
    let there = sym c.in-Some.ensures.value in
    let place = at_place ids nth id there in
    let listed : Contains ids id = (nth, place.0, place.1) in
    let before = c.args.notes.now in
    let start = c.args.steps.now in
    let after = c.edge_kept.new.notes in
    let by = edge_cost resolved graph atoms off var id c.edge_along.new.steps c.edge_kept.new.steps asked.cost in
    let added : c.match-edge_kept.ends.items ≡ c.loop-nth.ends.items ++ edges_on resolved graph atoms off var id =
    elim c.match-edge_kept.branch [
      | in-Some-edge_kept+in_ok-push-in-Some w ↦
          edge_more resolved graph atoms off var id w.in-Some-edge_kept.edge c.loop-nth.ends.items c.match-edge_kept.ends.items (sym asked.value ∙ w.in-Some-edge_kept.is)
          (ap (λ (v : Vec Bound Global). v.items) w.ends-is ∙ w.in_ok-push-in-Some.ensures.items)
      | in_default w ↦ edge_not resolved graph atoms off var id c.loop-nth.ends.items c.match-edge_kept.ends.items (sym asked.value ∙ w.in_default.is) (ap (λ (v : Vec Bound Global). v.items) w.ends-is)
    ] in
    record {
      so_far = flat_more (edges_on resolved graph atoms off var) c.args.ends.now.items c.loop-nth.ends.items c.match-edge_kept.ends.items ids nth id place.0 place.1 past.so_far added;
      reached = omega (arith, place.0);
      right = asked.right;
      full = full_both before c.loop-nth.notes after past.full asked.full;
      no_step_back = omega (arith, tick, asked.no_step_back, past.no_step_back);
      cost = cost_more (edge_most resolved graph atoms off var) ids nth id there start c.loop-nth.steps c.edge_kept.new.steps past.cost (omega (arith, tick, by));
      once =
          λ node pairs few closed among ahead.
          let one = asked.once pairs few closed (edge_in resolved graph atoms off pairs node var c.args.forward from among ahead id listed) in
          paid_edge_on graph pairs before c.loop-nth.notes after start c.loop-nth.steps c.edge_along.new.steps c.edge_kept.new.steps nth (length off)
          asked.full (past.once node pairs few closed among ahead) tick one;
    }

pub returns-after-loop-nth-clause-added : goal.returns-after-loop-nth-clause-added
returns-after-loop-nth-clause-added g c =
    let search = c.args.self.now.asking.search in
    let graph = g.G.GraphRead.meaning search.graph.now in
    let resolved = search.compiled.now in
    let atoms = search.atoms.now in
    let off = c.args.self.now.asking.whole.now in
    let ids = edges_along graph c.args.forward (Some (bounds.Node c.args.from)) in
    c.loop-nth.invariant.so_far
    ∙ ap (λ list. c.args.ends.now.items ++ flat_map (edges_on resolved graph atoms off c.args.var) list)
    (take_whole ids c.loop-nth.nth (omega (arith, few_along graph c.args.from c.args.forward, c.count-nth-end.ensures.value, c.loop-nth-test.false)))
    ∙ ap (λ list. c.args.ends.now.items ++ list) (edges_of_node resolved graph atoms off c.args.var 0 c.args.forward c.args.from)

pub returns-after-loop-nth-clause-once : goal.returns-after-loop-nth-clause-once
returns-after-loop-nth-clause-once g c =
    let search = c.args.self.now.asking.search in
    let graph = g.G.GraphRead.meaning search.graph.now in
    let resolved = search.compiled.now in
    let atoms = search.atoms.now in
    let off = c.args.self.now.asking.whole.now in
    let from = c.args.from in
    let ids = edges_along graph c.args.forward (Some (bounds.Node from)) in
    λ node pairs few closed among ahead.
    paid_edges graph pairs c.args.notes.now c.loop-nth.notes c.args.steps.now c.loop-nth.steps _ c.loop-nth.nth (length ids) _ (length off)
    c.loop-nth.invariant.reached (listed_few resolved graph atoms c.args.forward (bounds.Node from)) (let less : c.loop-nth.steps ≤ c.loop-nth.steps + 1 = omega arith in less) (c.loop-nth.invariant.once node pairs few closed among ahead)

pub returns-in-None-clause-added : goal.returns-in-None-clause-added
returns-in-None-clause-added g c =
    let search = c.args.self.now.asking.search in
    let graph = g.G.GraphRead.meaning search.graph.now in
    let resolved = search.compiled.now in
    let atoms = search.atoms.now in
    let off = c.args.self.now.asking.whole.now in
    let ids = edges_along graph c.args.forward (Some (bounds.Node c.args.from)) in
    c.loop-nth.invariant.so_far
    ∙ ap (λ list. c.args.ends.now.items ++ flat_map (edges_on resolved graph atoms off c.args.var) list)
    (take_whole ids c.loop-nth.nth (past_end ids c.loop-nth.nth (sym c.in-None.ensures.value)))
    ∙ ap (λ list. c.args.ends.now.items ++ list) (edges_of_node resolved graph atoms off c.args.var 0 c.args.forward c.args.from)

pub returns-in-None-clause-once : goal.returns-in-None-clause-once
returns-in-None-clause-once g c =
    let search = c.args.self.now.asking.search in
    let graph = g.G.GraphRead.meaning search.graph.now in
    let resolved = search.compiled.now in
    let atoms = search.atoms.now in
    let off = c.args.self.now.asking.whole.now in
    let from = c.args.from in
    let ids = edges_along graph c.args.forward (Some (bounds.Node from)) in
    λ node pairs few closed among ahead.
    paid_edges graph pairs c.args.notes.now c.loop-nth.notes c.args.steps.now c.loop-nth.steps _ c.loop-nth.nth (length ids) _ (length off)
    c.loop-nth.invariant.reached (listed_few resolved graph atoms c.args.forward (bounds.Node from)) (let less : c.edge_along.new.steps ≤ c.loop-nth.steps + 1 = omega (arith, c.edge_along.ensures.tick) in less) (c.loop-nth.invariant.once node pairs few closed among ahead)
