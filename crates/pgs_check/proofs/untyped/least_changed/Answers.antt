use Rattle.std.proofs.Common.{arith}
use Rattle.std.specs.Map.{keys_of}
use Rattle.pgs_check.specs.Untyped.{is_untyped_edge}
use Rattle.pgs_check.proofs.Steps.{least_step, least_done, key_at_place, keys_below, keys_end}
use Rattle.pgs_check.proofs.untyped.least_changed.Goals as goal

pub loop-change-preserved : goal.loop-change-preserved
loop-change-preserved g c = record {
  so_far = least_step (is_untyped_edge c.args.compiled.now (g.G.GraphRead.meaning c.args.graph.now)) (keys_of c.args.changes.now) c.loop-change.change-index c.change-item.result.0
      (key_at_place c.args.changes.now c.loop-change.change-index c.change-item.result c.loop-change-test.true c.change-item.is)
      (keys_below c.args.changes.now c.loop-change.change-index c.loop-change-test.true)
      c.args.found c.loop-change.found c.lesser_untyped-found.result c.lesser_untyped-found.ensures.least c.loop-change.invariant.so_far;
  no_step_back = omega arith;
  cost = omega arith;
}

pub returns-clause-least : goal.returns-clause-least
returns-clause-least g c =
    least_done (is_untyped_edge c.args.compiled.now (g.G.GraphRead.meaning c.args.graph.now)) (keys_of c.args.changes.now) c.loop-change.change-index
    (keys_end c.args.changes.now c.loop-change.change-index c.loop-change-test.false) c.args.found c.loop-change.found c.loop-change.invariant.so_far
