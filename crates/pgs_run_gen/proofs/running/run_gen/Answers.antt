use Rattle.std.proofs.Common.{refl}
use Rattle.pgs_command.proofs.Promising.{promise_unbegun}
use Rattle.pgs_run_lines.specs.AreasKept.{keeps_none}
use Rattle.pgs_run_gen.specs.Spec.{gen_spec}
use Rattle.pgs_run_gen.proofs.Promised.{promised}
use Rattle.pgs_run_gen.proofs.running.run_gen.Goals as goal

pub returns-in-Ok-clause-promise : goal.returns-in-Ok-clause-promise
returns-in-Ok-clause-promise g c =
    let reply = c.in-Ok.reply in
    promised c.args.start c.args.count reply.line reply.status c.put_reply.result (g.W.World.view c.args.world.now) (g.W.World.view c.put_reply.new.world)
    c.requires c.in-Ok.ensures.status c.in-Ok.ensures.line c.put_reply.ensures.ends c.put_reply.ensures.areas

pub returns-in-Err-clause-promise : goal.returns-in-Err-clause-promise
returns-in-Err-clause-promise g c = λ budget source places.
    promise_unbegun (gen_spec c.args.start c.args.count) budget (record { source = source; view = g.W.World.view c.args.world.now; places = places }) tt tt tt
    (keeps_none (g.W.World.view c.args.world.now) (g.met.W.World.timed c.args.world.now)) refl
