use Rattle.std.proofs.Common.{ap}
use Rattle.tests_store.proofs.Standing as standing
use Rattle.tests_store.proofs.store.scenario.renewed.Goals as goal

pub returns : goal.returns
returns g c =
    standing.renewed c.checkpoint-answer.result c.args.store.now c.checkpoint-answer.new.self (g.W.World.view c.args.world.now) (g.W.World.view c.checkpoint-answer.new.world)
    c.checkpoint-answer.ensures.answer (λ early. ap g.W.World.view (c.checkpoint-answer.ensures.early early)) c.requires
