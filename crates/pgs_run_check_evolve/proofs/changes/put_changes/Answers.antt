use Rattle.std.proofs.Common.{not, refl, subst}
use Rattle.pgs_syntax.specs.declared.resolved.Resolved.{Resolved}
use Rattle.pgs_run_check_evolve.specs.Telling.{TellsBehind}
use Rattle.pgs_run_check_evolve.proofs.Followed.{followed, stopped}
use Rattle.pgs_run_check_evolve.proofs.changes.put_changes.Goals as goal

pub returns-in-Ok-clause-follows : goal.returns-in-Ok-clause-follows
returns-in-Ok-clause-follows g c =
    let old = c.args.old.now in
    let new = c.args.new.now in
    let outside = c.in-Ok.outside in
    let mid = g.W.World.view c.put_old.new.world in
    let after = g.W.World.view c.put_behind.new.world in
    followed old new c.args.names.now new.guard.strict refl outside (g.W.World.view c.args.world.now) mid c.put_behind.result after c.in-Ok.ensures.tells
    (subst (λ (second : Resolved). TellsBehind old second (not outside) mid c.put_behind.result after) c.resolved-in-Ok.ensures.same
    (subst (λ (first : Resolved). TellsBehind first c.resolved-in-Ok.result.now (not outside) mid c.put_behind.result after) c.resolved.ensures.same c.put_behind.ensures.tells))

pub returns-in-Err-clause-follows : goal.returns-in-Err-clause-follows
returns-in-Err-clause-follows g c =
    let new = c.args.new.now in
    stopped c.args.old.now new c.args.names.now new.guard.strict refl c.in-Err.stop (g.W.World.view c.args.world.now) (g.W.World.view c.put_old.new.world) c.in-Err.ensures.tells
