use Rattle.std.proofs.Common.{sym, ◌∙◌, arith}
use Rattle.pgs_key_causes.specs.Walk.{is_next}
use Rattle.pgs_key_causes.proofs.Turns.{found_here, found_later, found_none}
use Rattle.pgs_key_causes.proofs.walk.next_step.Goals as goal

pub returns-then-is_next-clause-step : goal.returns-then-is_next-clause-step
returns-then-is_next-clause-step c =
    sym (c.loop-place.invariant
    ∙ found_here c.args.places.now (is_next c.args.places.now c.args.visits.now) c.loop-place.place (omega arith) (sym c.is_next.ensures ∙ c.if-is_next.true))

pub loop-place-preserved : goal.loop-place-preserved
loop-place-preserved c =
    c.loop-place.invariant
    ∙ found_later c.args.places.now (is_next c.args.places.now c.args.visits.now) c.loop-place.place (omega arith) (sym c.is_next.ensures ∙ c.if-is_next.false)

pub returns-clause-step : goal.returns-clause-step
returns-clause-step c =
    sym (c.loop-place.invariant ∙ found_none c.args.places.now (is_next c.args.places.now c.args.visits.now) c.loop-place.place (omega arith))
