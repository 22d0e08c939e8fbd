use Rattle.std.proofs.Common.{ap}
use Rattle.tests_store.proofs.Standing as standing
use Rattle.tests_store.proofs.store.scenario.evolved.Goals as goal

pub returns : goal.returns
returns g c =
    standing.evolved c.evolve-answer.result c.args.store.now c.evolve-answer.new.self c.as_bytes.result.now (g.W.World.view c.args.world.now) (g.W.World.view c.evolve-answer.new.world)
    c.evolve-answer.ensures.answer (λ early. ap g.W.World.view (c.evolve-answer.ensures.early early)) c.requires
