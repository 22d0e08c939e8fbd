use Rattle.std.proofs.Common.{refl, rules}
use Rattle.pgs_feed.proofs.Visits.{turn_all, turn_more}
use Rattle.pgs_feed.proofs.visiting.visit_each.Goals as goal

pub loop-place-init : goal.loop-place-init
loop-place-init g c = (refl, refl)

pub loop-place-preserved : goal.loop-place-preserved
loop-place-preserved g c =
    let loop = c.loop-place in
    turn_more g.V.Visit.visited loop.place c.args.items.now.items loop.items.items c.index_mut.result.now c.visit.new.item c.args.visitor.now loop.visitor c.visit.new.self loop.invariant (search rules) c.index_mut.ensures.value c.visit.ensures

pub returns : goal.returns
returns g c =
    let loop = c.loop-place in
    turn_all g.V.Visit.visited loop.place c.args.items.now.items loop.items.items c.args.visitor.now loop.visitor loop.invariant (search rules)
