use Rattle.std.proofs.Common.{arith}
use Rattle.pgs_scratch.specs.Untyped.{untyped_node_at}
use Rattle.pgs_scratch.proofs.Found.{found_next, all_found}
use Rattle.pgs_scratch.proofs.untyped.add_untyped_nodes.Goals as goal

pub loop-id-preserved : goal.loop-id-preserved
loop-id-preserved g c = record {
  so_far = found_next (untyped_node_at c.args.compiled.now (g.G.GraphRead.meaning c.args.graph.now)) c.args.found.now.items c.args.nodes.now c.loop-id.id-index
      _ c.loop-id-test.true c.loop-id.found.items c.add.new.found.items c.untyped_node-violation.result c.loop-id.invariant.so_far c.in_ok-add.ensures
      c.untyped_node-violation.ensures.found;
  no_step_back = omega arith;
}

pub returns-clause-nodes : goal.returns-clause-nodes
returns-clause-nodes g c =
    all_found (untyped_node_at c.args.compiled.now (g.G.GraphRead.meaning c.args.graph.now)) c.args.found.now.items c.args.nodes.now c.loop-id.id-index c.loop-id.found.items
    c.loop-id.invariant.so_far c.loop-id-test.false
