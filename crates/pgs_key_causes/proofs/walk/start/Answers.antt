use Rattle.std.proofs.Common.{[]}
use Rattle.pgs_key_causes.specs.Walk.{is_start}
use Rattle.pgs_key_causes.proofs.Turns.{own_more}
use Rattle.pgs_key_causes.proofs.walk.start.Goals as goal

pub loop-place-preserved : goal.loop-place-preserved
loop-place-preserved c =
    own_more c.args.places.now (is_start c.args.places.now) [] c.loop-place.place c.loop-place.visits.items c.push_if.new.visits.items c.is_start.result
    c.loop-place.invariant (c.is_start.ensures c.loop-place.visits.items) c.in_ok-push_if.ensures
