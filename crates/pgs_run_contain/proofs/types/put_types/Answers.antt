use Rattle.std.proofs.lemmas.List.{take_more}
use Rattle.pgs_run_contain.proofs.Answered.{number_on, number_stop, tells_none}
use Rattle.pgs_run_contain.proofs.types.put_types.Goals as goal

pub loop-number-init : goal.loop-number-init
loop-number-init g c = tells_none c.args.first.now c.args.containing.now.second c.args.containing.now.avoid (g.W.World.view c.args.world.now) (g.met.W.World.timed c.args.world.now)

pub returns-in-Err-clause-answer : goal.returns-in-Err-clause-answer
returns-in-Err-clause-answer g c =
    number_stop c.args.first.now c.args.containing.now.second c.args.containing.now.avoid c.args.numbers.now c.loop-number.number-index _ (take_more c.args.numbers.now c.loop-number.number-index _ c.loop-number-test.true)
    c.loop-number.some c.in-Err.stop (g.W.World.view c.args.world.now) (g.W.World.view c.loop-number.world) _ c.loop-number.invariant c.in-Err.ensures.answer

pub loop-number-preserved : goal.loop-number-preserved
loop-number-preserved g c =
    number_on c.args.first.now c.args.containing.now.second c.args.containing.now.avoid c.args.numbers.now c.loop-number.number-index _ (take_more c.args.numbers.now c.loop-number.number-index _ c.loop-number-test.true)
    c.loop-number.some c.in-Ok.one (g.W.World.view c.args.world.now) (g.W.World.view c.loop-number.world) _ c.loop-number.invariant c.in-Ok.ensures.answer
