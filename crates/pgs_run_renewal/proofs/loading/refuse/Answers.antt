use Rattle.std.proofs.Common.{subst, ◌∙◌}
use Rattle.pgs_answer.specs.Lines.{schema_refused_line}
use Rattle.pgs_resolve.specs.SchemaOf.{schema_of}
use Rattle.pgs_command.specs.declared.status.Status.TheVariants.{SchemaRefused}
use Rattle.pgs_run_input.proofs.Answering.{answer_is}
use Rattle.pgs_run_input.proofs.OneLine.{PutsLine, line_of_reply, silent_none}
use Rattle.pgs_world.proofs.Moments.{quiet_none}
use Rattle.pgs_run_renewal.proofs.Loads.{loads_none, loads_refused, refuses_text}
use Rattle.pgs_run_renewal.proofs.loading.refuse.Goals as goal

pub returns-in-Ok-clause-answer : goal.returns-in-Ok-clause-answer
returns-in-Ok-clause-answer g c =
    let text = c.args.text.now in
    let old = g.W.World.view c.args.world.now in
    let new = g.W.World.view c.put_reply.new.world in
    let timed = g.met.W.World.timed c.args.world.now in
    let refused = c.in-Ok.ensures (schema_of text) c.requires in
    let put = line_of_reply c.in-Ok.line SchemaRefused old c.put_reply.result new (record { ends = c.put_reply.ensures.ends; stops = c.put_reply.ensures.stops; areas = c.put_reply.ensures.areas }) in
    loads_refused text (schema_refused_line refused.text) SchemaRefused c.put_reply.result old old new timed (quiet_none old timed) (silent_none old) (refuses_text text refused.text old (answer_is text ∙ refused.refused))
    (subst (λ line. PutsLine line SchemaRefused old c.put_reply.result new) refused.is put)

pub returns-in-Err-clause-answer : goal.returns-in-Err-clause-answer
returns-in-Err-clause-answer g c =
    let old = g.W.World.view c.args.world.now in
    let timed = g.met.W.World.timed c.args.world.now in
    loads_none c.args.text.now old old timed (quiet_none old timed) (silent_none old)
