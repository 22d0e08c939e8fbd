use Rattle.std.proofs.Common.{◌∙◌, ap, subst}
use Rattle.pgs_syntax.specs.declared.resolved.Resolved.{Resolved}
use Rattle.pgs_run_contain.specs.Names.{Names}
use Rattle.pgs_run_contain.specs.Running.{Tells}
use Rattle.pgs_run_contain.proofs.Answered.{unanswered}
use Rattle.pgs_run_contain.proofs.types.put_all_types.Goals as goal

pub returns-in-Err-clause-answer : goal.returns-in-Err-clause-answer
returns-in-Err-clause-answer g c = unanswered c.args.first.now c.args.second.now c.args.names.now _ (g.W.World.view c.args.world.now) (g.met.W.World.timed c.args.world.now)

pub returns-clause-answer : goal.returns-clause-answer
returns-clause-answer g c =
    let old = g.W.World.view c.args.world.now in
    let new = g.W.World.view c.put_types.new.world in
    let first = c.args.first.now in
    let types = c.as_slice-numbers.ensures ∙ ap (λ (r : Resolved). r.guard.types) c.resolved.ensures.same in
    subst (λ (second : Resolved). Tells first second c.args.names.now first.guard.types c.put_types.result old new) c.in-Ok.ensures.0
    (subst (λ (names : Names). Tells first c.in-Ok.containing.second names first.guard.types c.put_types.result old new) c.in-Ok.ensures.1
    (subst (λ numbers. Tells first c.in-Ok.containing.second c.in-Ok.containing.avoid numbers c.put_types.result old new) types c.put_types.ensures.answer))
