use Rattle.pgs_run_check_evolve.proofs.Caused.{cause_put, cause_torn, cause_unmade}
use Rattle.pgs_run_check_evolve.proofs.cause.put_cause.Goals as goal

pub returns-in-Err-clause-follows : goal.returns-in-Err-clause-follows
returns-in-Err-clause-follows g c = cause_unmade c.args.text.now (g.W.World.view c.args.world.now) (g.met.W.World.timed c.args.world.now)

pub returns-in-Ok-put_any-clause-follows : goal.returns-in-Ok-put_any-clause-follows
returns-in-Ok-put_any-clause-follows g c =
    cause_put c.args.text.now c.in-Ok.line (g.W.World.view c.args.world.now) (g.W.World.view c.put_any.new.world) c.in-Ok.ensures c.in-Ok-put_any.ensures.shows c.in-Ok-put_any.ensures.cause c.put_any.ensures.areas

pub returns-in-Err-put_any-clause-follows : goal.returns-in-Err-put_any-clause-follows
returns-in-Err-put_any-clause-follows g c =
    cause_torn c.args.text.now c.in-Ok.line c.in-Err-put_any.stop (g.W.World.view c.args.world.now) (g.W.World.view c.put_any.new.world) c.in-Err-put_any.ensures.fault c.in-Ok.ensures c.in-Err-put_any.ensures.shows
    c.in-Err-put_any.ensures.cause c.put_any.ensures.areas
