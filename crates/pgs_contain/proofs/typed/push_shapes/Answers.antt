use Rattle.std.proofs.Common.{arith}
use Rattle.pgs_contain.proofs.Three.{shape_pushed}
use Rattle.pgs_contain.proofs.typed.push_shapes.Goals as goal

pub loop-shape-preserved : goal.loop-shape-preserved
loop-shape-preserved c = record {
  denote =
      shape_pushed c.args.all.now.items c.loop-shape.all.items c.push.new.self.items c.args.shapes.now c.loop-shape.shape-index c.shape-item.result c.in_ok-copy.copy
      c.loop-shape-test.true c.shape-item.is c.in_ok-copy.ensures c.in_ok-push.ensures.items c.loop-shape.invariant.denote;
  count = grind (arith, c.loop-shape.invariant.count, c.in_ok-push.ensures.items);
}
