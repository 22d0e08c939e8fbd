use Rattle.std.proofs.Common.{ap}
use Rattle.tests_store.proofs.Standing as standing
use Rattle.tests_store.proofs.store.scenario.applied.Goals as goal

pub returns : goal.returns
returns g c =
    standing.applied c.apply-answer.result c.args.store.now c.apply-answer.new.self c.args.txn.now (g.W.World.view c.args.world.now) (g.W.World.view c.apply-answer.new.world)
    c.apply-answer.ensures.answer (λ early. ap g.W.World.view (c.apply-answer.ensures.early early)) c.requires
