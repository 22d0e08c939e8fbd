use Rattle.pgs_key_standing.proofs.Between.{same_start, same_more}
use Rattle.pgs_key_standing.proofs.places.push_copies.Goals as goal

pub loop-shape-init : goal.loop-shape-init
loop-shape-init c = same_start c.args.all.now.items c.args.shapes.now

pub loop-shape-preserved : goal.loop-shape-preserved
loop-shape-preserved c =
    same_more c.args.shapes.now c.args.all.now.items c.loop-shape.all.items c.push.new.self.items c.loop-shape.shape-index c.shape-item.result c.in_ok-copy.copy
    c.loop-shape-test.true c.shape-item.is c.in_ok-copy.ensures c.in_ok-push.ensures.items c.loop-shape.invariant
