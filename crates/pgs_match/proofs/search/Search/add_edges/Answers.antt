use Rattle.std.proofs.Common.{◌++◌, flat_map, sym, ap, ◌∙◌, arith}
use Rattle.pgs_base.specs.declared.element.Elem.TheVariants.{Node}
use Rattle.pgs_match.specs.Spread.{stands_of, edges_in}
use Rattle.pgs_match.specs.Tests.{admitted_edge}
use Rattle.pgs_match.proofs.Along.{at_place, past_end, take_whole}
use Rattle.pgs_match.proofs.Few.{few_along}
use Rattle.pgs_match.proofs.Leading.{flat_more}
use Rattle.pgs_match.proofs.search.Search.add_edges.Goals as goal

pub loop-nth-preserved : goal.loop-nth-preserved
loop-nth-preserved g c =
    let graph = g.G.GraphRead.meaning c.args.self.now.graph.now in
    let ids = edges_in graph c.args.forward (Node c.args.node) in
    let past = c.loop-nth.invariant in
    let place = at_place ids c.loop-nth.nth c.in-Some.id (sym c.in-Some.ensures.value) in
    record {
      so_far =
          flat_more (λ id. stands_of c.args.var (admitted_edge c.args.self.now.compiled.now graph c.args.self.now.atoms.now c.args.var id)) c.args.stands.now.items c.loop-nth.stands.items _ ids c.loop-nth.nth c.in-Some.id
          place.0 place.1 past.so_far (c.in_ok-add_admitted-in-Some.ensures ∙ ap (λ o. c.loop-nth.stands.items ++ stands_of c.args.var o) c.admit_edge-admitted.ensures.value);
      within = omega (arith, place.0);
      no_step_back = omega (arith, past.no_step_back, c.edge_along.ensures.tick, c.admit_edge-admitted.ensures.no_step_back);
      cost = omega (arith, past.cost, c.edge_along.ensures.tick, c.admit_edge-admitted.ensures.at_most);
    }

pub returns-in_err-add_admitted-in-Some-clause-no_step_back : goal.returns-in_err-add_admitted-in-Some-clause-no_step_back
returns-in_err-add_admitted-in-Some-clause-no_step_back g c =
    omega (arith, c.loop-nth.invariant.no_step_back, c.edge_along.ensures.tick, c.admit_edge-admitted.ensures.no_step_back)

pub returns-in_err-add_admitted-in-Some-clause-cost : goal.returns-in_err-add_admitted-in-Some-clause-cost
returns-in_err-add_admitted-in-Some-clause-cost g c =
    let graph = g.G.GraphRead.meaning c.args.self.now.graph.now in
    let ids = edges_in graph c.args.forward (Node c.args.node) in
    let place = at_place ids c.loop-nth.nth c.in-Some.id (sym c.in-Some.ensures.value) in
    omega (arith, c.loop-nth.invariant.cost, c.edge_along.ensures.tick, c.admit_edge-admitted.ensures.at_most, place.0)

pub returns-in-None-clause-added : goal.returns-in-None-clause-added
returns-in-None-clause-added g c =
    let graph = g.G.GraphRead.meaning c.args.self.now.graph.now in
    let ids = edges_in graph c.args.forward (Node c.args.node) in
    c.loop-nth.invariant.so_far
    ∙ ap (λ some. c.args.stands.now.items ++ flat_map (λ id. stands_of c.args.var (admitted_edge c.args.self.now.compiled.now graph c.args.self.now.atoms.now c.args.var id)) some)
    (take_whole ids c.loop-nth.nth (past_end ids c.loop-nth.nth (sym c.in-None.ensures.value)))

pub returns-in-None-clause-cost : goal.returns-in-None-clause-cost
returns-in-None-clause-cost g c = omega (arith, c.loop-nth.invariant.cost, c.loop-nth.invariant.within, c.edge_along.ensures.tick)

pub returns-clause-added : goal.returns-clause-added
returns-clause-added g c =
    let graph = g.G.GraphRead.meaning c.args.self.now.graph.now in
    let ids = edges_in graph c.args.forward (Node c.args.node) in
    c.loop-nth.invariant.so_far
    ∙ ap (λ some. c.args.stands.now.items ++ flat_map (λ id. stands_of c.args.var (admitted_edge c.args.self.now.compiled.now graph c.args.self.now.atoms.now c.args.var id)) some)
    (take_whole ids c.loop-nth.nth (omega (arith, few_along graph c.args.node c.args.forward, c.count-nth-end.ensures.value, c.loop-nth-test.false)))

pub returns-clause-cost : goal.returns-clause-cost
returns-clause-cost g c = omega (arith, c.loop-nth.invariant.cost, c.loop-nth.invariant.within)
