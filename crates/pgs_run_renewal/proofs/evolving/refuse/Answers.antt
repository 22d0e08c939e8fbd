use Rattle.std.proofs.Common.{subst, ◌∙◌}
use Rattle.pgs_answer.specs.Lines.{schema_refused_line}
use Rattle.pgs_resolve.specs.SchemaOf.{schema_of}
use Rattle.pgs_command.specs.declared.status.Status.TheVariants.{SchemaRefused}
use Rattle.pgs_run_input.proofs.Answering.{answer_is}
use Rattle.pgs_run_input.proofs.OneLine.{PutsLine, line_of_reply}
use Rattle.pgs_run_renewal.specs.EvolveTold.{told_text}
use Rattle.pgs_run_renewal.proofs.Evolves.{evolves_none, evolves_refused, refuses_text}
use Rattle.pgs_run_renewal.proofs.evolving.refuse.Goals as goal

pub returns-in-Ok-clause-answer : goal.returns-in-Ok-clause-answer
returns-in-Ok-clause-answer g c = λ graph.
    let text = c.args.text.now in
    let old = g.W.World.view c.args.world.now in
    let new = g.W.World.view c.put_reply.new.world in
    let refused = c.in-Ok.ensures (schema_of text) c.requires in
    let put = line_of_reply c.in-Ok.line SchemaRefused old c.put_reply.result new (record { ends = c.put_reply.ensures.ends; stops = c.put_reply.ensures.stops; areas = c.put_reply.ensures.areas }) in
    evolves_refused (told_text text graph) text (schema_refused_line refused.text) SchemaRefused c.put_reply.result old new (g.met.W.World.timed c.args.world.now) (refuses_text text refused.text graph old (answer_is text ∙ refused.refused))
    (subst (λ line. PutsLine line SchemaRefused old c.put_reply.result new) refused.is put)

pub returns-in-Err-clause-answer : goal.returns-in-Err-clause-answer
returns-in-Err-clause-answer g c = λ graph. evolves_none (told_text c.args.text.now graph) c.args.text.now (g.W.World.view c.args.world.now) (g.met.W.World.timed c.args.world.now)
