use Rattle.std.proofs.Common.{ap, ◌∙◌}
use Rattle.pgs_key_causes.specs.Walk.{is_alone}
use Rattle.pgs_key_causes.proofs.Turns.{own_more}
use Rattle.pgs_key_causes.proofs.walk.push_alone.Goals as goal

pub loop-place-preserved : goal.loop-place-preserved
loop-place-preserved c =
    own_more c.args.places.now (is_alone c.args.places.now) c.args.visits.now.items c.loop-place.place c.loop-place.visits.items c.push_if.new.visits.items
    c.is_alone-alone.result c.loop-place.invariant
    (c.is_alone-alone.ensures ∙ ap (λ visits. is_alone c.args.places.now visits c.loop-place.place) c.deref.ensures.value) c.in_ok-push_if.ensures
