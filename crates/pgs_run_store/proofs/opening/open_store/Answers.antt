use Rattle.pgs_run_input.proofs.Standard.{standard_is}
use Rattle.pgs_run_store.proofs.Unopening.{just_opened, not_opened}
use Rattle.pgs_run_store.proofs.opening.open_store.Goals as goal

pub returns-in-Ok-clause-answer : goal.returns-in-Ok-clause-answer
returns-in-Ok-clause-answer g c =
    just_opened c.in-Ok.store c.standard.result (g.W.World.view c.args.world.now) (g.W.World.view c.recover.new.world) (standard_is c.standard.result c.standard.ensures.ops c.standard.ensures.elements)
    c.in-Ok.ensures.answer c.schema_text-text.ensures.schema

pub returns-in-Err-clause-answer : goal.returns-in-Err-clause-answer
returns-in-Err-clause-answer g c =
    not_opened c.in-Err.fault c.reason_for.result c.standard.result (g.W.World.view c.args.world.now) (g.W.World.view c.recover.new.world) (standard_is c.standard.result c.standard.ensures.ops c.standard.ensures.elements)
    c.in-Err.ensures.answer c.reason_for.ensures
