use Rattle.std.proofs.Common.{arith}
use Rattle.pgs_scratch.specs.Untyped.{untyped_edge_at}
use Rattle.pgs_scratch.proofs.Found.{found_next, all_found}
use Rattle.pgs_scratch.proofs.untyped.add_untyped_edges.Goals as goal

pub loop-id-preserved : goal.loop-id-preserved
loop-id-preserved g c = record {
  so_far = found_next (untyped_edge_at c.args.compiled.now (g.G.GraphRead.meaning c.args.graph.now)) c.args.found.now.items c.args.edges.now c.loop-id.id-index
      _ c.loop-id-test.true c.loop-id.found.items c.add.new.found.items c.untyped_edge-violation.result c.loop-id.invariant.so_far c.in_ok-add.ensures
      c.untyped_edge-violation.ensures.found;
  no_step_back = omega arith;
}

pub returns-clause-edges : goal.returns-clause-edges
returns-clause-edges g c =
    all_found (untyped_edge_at c.args.compiled.now (g.G.GraphRead.meaning c.args.graph.now)) c.args.found.now.items c.args.edges.now c.loop-id.id-index c.loop-id.found.items
    c.loop-id.invariant.so_far c.loop-id-test.false
