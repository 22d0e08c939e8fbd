use Rattle.std.proofs.Common.{◌∙◌, arith}
use Rattle.pgs_txn.specs.Listing.{element_degree, may_list_node, may_list_edge}
use Rattle.pgs_txn.specs.Working.{graph_now}
use Rattle.pgs_txn.proofs.Staged.{after_one, may_list, degree_upto, more_looks}
use Rattle.pgs_txn.proofs.staging.do_ops.Goals as goal

pub loop-index-preserved : goal.loop-index-preserved
loop-index-preserved g c =
    let m = g.G.GraphRead.meaning c.args.graph.now in
    let ops = c.args.ops.now in
    let i = c.loop-index.index in
    let op = c.index-ops-index.result in
    let before = c.loop-index.invariant in
    let never_back = before.no_step_back in
    let step_on = c.do_op.ensures.no_step_back in
    record {
      done = before.done ∙ after_one (graph_now m c.loop-index.working) (graph_now m c.do_op.new.working) ops i op c.loop-index-test.true c.index-ops-index.is c.in_default.ensures.step;
      stands = c.in_default.ensures.stands;
      lists = c.in_default.ensures.lists (may_list_node ops) (may_list_edge m ops) (may_list m ops i c.loop-index-test.true op c.index-ops-index.is) before.lists;
      no_step_back = omega arith;
      looks = λ most all. more_looks c.args.steps.now c.loop-index.steps c.do_op.new.steps i most (element_degree m op) (before.looks most all) c.do_op.ensures.looks
          (degree_upto m ops i c.loop-index-test.true most all op c.index-ops-index.is);
    }
