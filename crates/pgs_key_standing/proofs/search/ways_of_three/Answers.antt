use Rattle.pgs_key_standing.specs.Demands.{are_in_three}
use Rattle.pgs_key_standing.proofs.Ways.{way_more}
use Rattle.pgs_key_standing.proofs.search.ways_of_three.Goals as goal

pub loop-shapes-preserved : goal.loop-shapes-preserved
loop-shapes-preserved c =
    way_more (λ ps shapes. are_in_three ps c.args.at.0 c.args.at.1 c.args.at.2 shapes) c.args.places.now c.args.triples.now c.loop-shapes.shapes-index c.shapes-item.result c.loop-shapes.ways.items
    c.push_way.new.ways.items c.in_ok-way.way c.loop-shapes-test.true c.shapes-item.is c.in_ok-push_way.ensures c.in_ok-way.ensures c.loop-shapes.invariant
