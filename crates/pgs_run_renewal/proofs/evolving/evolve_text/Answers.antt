use Rattle.std.proofs.Common.{sym, ap, subst, ◌∙◌}
use Rattle.pgs_answer.specs.Lines.{store_refused_line}
use Rattle.pgs_answer.specs.Refusals.{old_format_text}
use Rattle.pgs_resolve.specs.SchemaOf.{schema_of}
use Rattle.pgs_command.specs.declared.status.Status.TheVariants.{StoreRefused}
use Rattle.pgs_run_input.proofs.Answering.{answer_ok}
use Rattle.pgs_run_renewal.specs.EvolveLeaving.{EvolvesText}
use Rattle.pgs_run_renewal.specs.EvolveTold.{told_new}
use Rattle.pgs_run_renewal.proofs.Evolves.{evolves_refused, refuses_old, told_numbered, without_next}
use Rattle.pgs_run_renewal.proofs.evolving.evolve_text.Goals as goal

pub returns-then-not-takes_schemas-clause-answer : goal.returns-then-not-takes_schemas-clause-answer
returns-then-not-takes_schemas-clause-answer g c =
    let it = c.args.store.now in
    let text = c.args.text.now in
    let old = g.W.World.view c.args.world.now in
    let put = c.put_last.ensures in
    evolves_refused (told_new it.journal.next text it.guard.graph) text (store_refused_line old_format_text) StoreRefused c.put_last.result old (g.W.World.view c.put_last.new.world) (g.met.W.World.timed c.args.world.now)
    (refuses_old it old text c.requires (without_next it.journal.next (sym c.takes_schemas.ensures ∙ c.if-not-takes_schemas.true)))
    (record { ends = put.ends _ c.old_format_line.ensures; stops = put.stops _ c.old_format_line.ensures; areas = put.areas })

pub renew-requires-clause-read : goal.renew-requires-clause-read
renew-requires-clause-read g c = answer_ok c.in-Ok.schema.text c.in-Ok.schema.resolved (ap schema_of c.in-Ok.ensures.text ∙ c.in-Ok.ensures.schema)

pub returns-in-Err-clause-answer : goal.returns-in-Err-clause-answer
returns-in-Err-clause-answer g c =
    let it = c.args.store.now in
    let text = c.args.text.now in
    subst (λ told. EvolvesText told text (g.W.World.view c.args.world.now) (g.W.World.view c.refuse.new.world) c.refuse.result)
    (sym (told_numbered it.journal.next text it.guard.graph (sym c.takes_schemas.ensures ∙ c.if-not-takes_schemas.false))) (c.refuse.ensures.answer it.guard.graph)
