use Rattle.std.proofs.Common.{◌≡◌, ℕ, List, ◌++◌, sym, ap, subst, ◌∙◌}
use Rattle.pgs_run_input.proofs.Answering.{answer_ok}
use Rattle.pgs_run_contain.specs.Behind.{FollowsBoth}
use Rattle.pgs_run_contain.specs.Names.{Names, names_in}
use Rattle.pgs_run_renewal.proofs.Evolves.{without_next}
use Rattle.pgs_run_store.specs.Opening.{saved_in}
use Rattle.pgs_run_check_evolve.specs.Stored.{stored_behind}
use Rattle.pgs_run_check_evolve.proofs.StoreNext.{none_next, old_next, schema_next}
use Rattle.pgs_run_check_evolve.proofs.stored.tell_text.Goals as goal

pub returns-then-not-takes_schemas-clause-answer : goal.returns-then-not-takes_schemas-clause-answer
returns-then-not-takes_schemas-clause-answer g c =
    let it = c.args.store.now in
    let put = c.put_last.ensures in
    old_next (saved_in it) it.journal.next c.args.text.now (g.W.World.view c.args.world.now) c.put_last.result (g.W.World.view c.put_last.new.world)
    (without_next it.journal.next (sym c.takes_schemas.ensures ∙ c.if-not-takes_schemas.true))
    (record { ends = put.ends _ c.old_format_line.ensures; stops = put.stops _ c.old_format_line.ensures; areas = put.areas })

pub returns-in-Ok-names_in_both-clause-answer : goal.returns-in-Ok-names_in_both-clause-answer
returns-in-Ok-names_in_both-clause-answer g c =
    let it = c.args.store.now in
    let text = c.args.text.now in
    let new = c.in-Ok.schema.resolved in
    let before = g.W.World.view c.args.world.now in
    let after = g.W.World.view c.tell_stored.new.world in
    schema_next (saved_in it) it.journal.next text new before c.tell_stored.result after c.status_at.result
    (sym c.takes_schemas.ensures ∙ c.if-not-takes_schemas.false) (answer_ok text new c.in-Ok.ensures.schema) c.status_at.ensures
    (subst (λ (names : Names). FollowsBoth (stored_behind it.guard.graph) it.guard.schema new names before c.tell_stored.result after)
    (c.as_slice.ensures ∙ c.in-Ok-names_in_both.ensures ∙ ap (λ (saved : List ℕ). names_in saved ++ names_in text) c.schema_text.ensures.text) c.tell_stored.ensures.follows)

pub returns-in-Ok-clause-answer : goal.returns-in-Ok-clause-answer
returns-in-Ok-clause-answer g c =
    let it = c.args.store.now in
    none_next (saved_in it) it.journal.next c.args.text.now (g.W.World.view c.args.world.now) (g.met.W.World.timed c.args.world.now)
