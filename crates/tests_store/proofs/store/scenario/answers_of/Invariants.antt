use Rattle.std.specs.Prelude.{◌≡◌, false}
use Rattle.pgs_store.specs.Stored.{StandsOn}
use Rattle.tests_store.proofs.store.scenario.answers_of.Given as goal

abbrev pub invariant-loop-call : goal.invariant-loop-call
invariant-loop-call g l = l.store.failed ≡ false → StandsOn l.store.guard l.store.journal (g.W.World.view l.world)
