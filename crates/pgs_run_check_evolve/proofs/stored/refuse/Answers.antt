use Rattle.std.proofs.Common.{ℕ, List, subst}
use Rattle.pgs_resolve.specs.SchemaOf.{schema_of}
use Rattle.pgs_run_check_evolve.specs.Telling.{TellsRefusal}
use Rattle.pgs_run_check_evolve.proofs.StoreNext.{none_next, refused_next}
use Rattle.pgs_run_check_evolve.proofs.stored.refuse.Goals as goal

pub returns-in-Ok-clause-answer : goal.returns-in-Ok-clause-answer
returns-in-Ok-clause-answer g c = λ it number.
    let text = c.args.text.now in
    let old = g.W.World.view c.args.world.now in
    let new = g.W.World.view c.put_refusal.new.world in
    refused_next it number text c.in-Ok.lines.items old new c.put_refusal.result (c.in-Ok.ensures (schema_of text) c.requires)
    (subst (λ (lines : List (List ℕ)). TellsRefusal lines old new c.put_refusal.result) c.deref.ensures.value c.put_refusal.ensures.tells)

pub returns-in-Err-clause-answer : goal.returns-in-Err-clause-answer
returns-in-Err-clause-answer g c = λ it number. none_next it _ c.args.text.now (g.W.World.view c.args.world.now) (g.met.W.World.timed c.args.world.now)
