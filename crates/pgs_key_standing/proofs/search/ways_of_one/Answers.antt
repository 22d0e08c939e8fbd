use Rattle.pgs_key_standing.specs.Demands.{is_in}
use Rattle.pgs_key_standing.proofs.Ways.{way_more}
use Rattle.pgs_key_standing.proofs.search.ways_of_one.Goals as goal

pub loop-shape-preserved : goal.loop-shape-preserved
loop-shape-preserved c =
    way_more (λ ps shape. is_in ps c.args.place shape) c.args.places.now c.args.shapes.now c.loop-shape.shape-index c.shape-item.result c.loop-shape.ways.items c.push_way.new.ways.items
    c.in_ok-way.way c.loop-shape-test.true c.shape-item.is c.in_ok-push_way.ensures c.in_ok-way.ensures c.loop-shape.invariant
