use Rattle.std.proofs.Common.{cond, ◌++◌, map, sym, ap, ◌∙◌, arith}
use Rattle.pgs_base.specs.declared.element.Elem.TheVariants.{Edge}
use Rattle.pgs_graph.specs.Reads.{out_edges_of, in_edges_of}
use Rattle.pgs_match.proofs.Along.{at_place, take_whole}
use Rattle.pgs_match.proofs.Few.{few_along}
use Rattle.pgs_check_affected.proofs.Loops.{mapped_more}
use Rattle.pgs_check_affected.proofs.gathering.add_edges_along.Goals as goal

pub loop-nth-preserved : goal.loop-nth-preserved
loop-nth-preserved g c =
    let graph = g.G.GraphRead.meaning c.args.graph.now in
    let ids = cond c.args.forward (out_edges_of graph c.args.id) (in_edges_of graph c.args.id) in
    let before = c.loop-nth.invariant in
    let place = at_place ids c.loop-nth.nth c.in-Some.edge (sym c.in-Some.ensures.value) in
    record {
      so_far =
          c.in_ok-push-in-Some.ensures.items
          ∙ mapped_more (λ edge. Edge edge) c.args.elems.now.items c.loop-nth.elems.items ids c.loop-nth.nth c.in-Some.edge place.0 place.1 before.so_far;
      within = omega (arith, place.0);
      looked = omega (arith, c.edge_along.ensures.tick, before.looked);
    }

pub returns-clause-edges : goal.returns-clause-edges
returns-clause-edges g c =
    let graph = g.G.GraphRead.meaning c.args.graph.now in
    let ids = cond c.args.forward (out_edges_of graph c.args.id) (in_edges_of graph c.args.id) in
    c.loop-nth.invariant.so_far
    ∙ ap (λ edges. c.args.elems.now.items ++ map (λ edge. Edge edge) edges)
    (take_whole ids c.loop-nth.nth (omega (arith, few_along graph c.args.id c.args.forward, c.count-nth-end.ensures.value, c.loop-nth-test.false)))
