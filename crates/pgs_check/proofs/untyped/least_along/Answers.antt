use Rattle.std.proofs.Common.{◌<◌, cond, length, take, sym, arith}
use Rattle.std.specs.Map.{keys_of}
use Rattle.pgs_graph.specs.Reads.{out_edges_of, in_edges_of}
use Rattle.pgs_match.proofs.Along.{at_place, past_end}
use Rattle.pgs_match.proofs.Few.{few_along}
use Rattle.pgs_check.specs.Untyped.{is_untyped_edge}
use Rattle.pgs_check.proofs.Least.{still_settled}
use Rattle.pgs_check.proofs.Steps.{least_step, least_done}
use Rattle.pgs_check.proofs.untyped.least_along.Goals as goal

pub lesser_untested-found-requires : goal.lesser_untested-found-requires
lesser_untested-found-requires g c =
    let graph = g.G.GraphRead.meaning c.args.graph.now in
    let ids = cond c.args.forward (out_edges_of graph c.args.node) (in_edges_of graph c.args.node) in
    still_settled (is_untyped_edge c.args.compiled.now graph) (keys_of c.args.tested.now) c.args.found c.loop-nth.found (take c.loop-nth.nth ids) c.requires
    c.loop-nth.invariant.so_far

pub loop-nth-preserved : goal.loop-nth-preserved
loop-nth-preserved g c =
    let graph = g.G.GraphRead.meaning c.args.graph.now in
    let ids = cond c.args.forward (out_edges_of graph c.args.node) (in_edges_of graph c.args.node) in
    let place = at_place ids c.loop-nth.nth c.in-Some.id (sym c.in-Some.ensures.value) in
    let below : c.loop-nth.nth < length ids = place.0 in
    let tick = c.edge_along.ensures.tick in
    let before = c.loop-nth.invariant in
    record {
      so_far = least_step (is_untyped_edge c.args.compiled.now graph) ids c.loop-nth.nth c.in-Some.id (sym place.1) place.0 c.args.found c.loop-nth.found
          c.lesser_untested-found.result c.lesser_untested-found.ensures.least c.loop-nth.invariant.so_far;
      within = omega arith;
      no_step_back = omega arith;
      cost = omega arith;
    }

pub returns-in-None-clause-least : goal.returns-in-None-clause-least
returns-in-None-clause-least g c =
    let graph = g.G.GraphRead.meaning c.args.graph.now in
    let ids = cond c.args.forward (out_edges_of graph c.args.node) (in_edges_of graph c.args.node) in
    least_done (is_untyped_edge c.args.compiled.now graph) ids c.loop-nth.nth (past_end ids c.loop-nth.nth (sym c.in-None.ensures.value)) c.args.found c.loop-nth.found
    c.loop-nth.invariant.so_far

pub returns-clause-least : goal.returns-clause-least
returns-clause-least g c =
    let graph = g.G.GraphRead.meaning c.args.graph.now in
    let ids = cond c.args.forward (out_edges_of graph c.args.node) (in_edges_of graph c.args.node) in
    least_done (is_untyped_edge c.args.compiled.now graph) ids c.loop-nth.nth
    (omega (arith, few_along graph c.args.node c.args.forward, c.count-nth-end.ensures.value, c.loop-nth-test.false)) c.args.found c.loop-nth.found
    c.loop-nth.invariant.so_far
