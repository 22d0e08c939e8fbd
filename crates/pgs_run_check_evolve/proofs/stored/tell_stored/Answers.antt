use Rattle.std.proofs.Common.{◌≡◌, true, subst}
use Rattle.pgs_base.specs.Graph.{Graph, is_graph}
use Rattle.pgs_run_lines.specs.declared.stop.Stop.{Stop}
use Rattle.pgs_syntax.specs.declared.resolved.Resolved.{Resolved}
use Rattle.pgs_violation.specs.Violations.{violations}
use Rattle.pgs_command.specs.declared.status.Status.{Status}
use Rattle.pgs_store.proofs.Decided.{by_verdict}
use Rattle.pgs_run_contain.specs.Behind.{FollowsBoth}
use Rattle.pgs_run_check_evolve.specs.Spec.{evolve_behind}
use Rattle.pgs_run_check_evolve.specs.Telling.{TellsListed}
use Rattle.pgs_run_check_evolve.proofs.SavedSteps.{stored_listed, stored_same}
use Rattle.pgs_run_check_evolve.proofs.stored.tell_stored.Goals as goal

pub returns-then-is_unsafe-clause-follows : goal.returns-then-is_unsafe-clause-follows
returns-then-is_unsafe-clause-follows g c =
    let old = c.args.store.now.guard.schema in
    let new = c.args.schema.now.resolved in
    let names = c.args.names.now in
    let before = g.W.World.view c.args.world.now in
    let mid = g.W.World.view c.put_changes-stop.new.world in
    let after = g.W.World.view c.list_violations.new.world in
    stored_listed old new names c.args.store.now.guard.graph before mid after c.list_violations.result
    (subst (λ (stop : Stop Status). FollowsBoth evolve_behind old new names before stop mid) (c.is_unsafe.ensures.refused c.if-is_unsafe.true)
    (subst (λ (n : Resolved). FollowsBoth evolve_behind old n names before c.put_changes-stop.result mid) c.compiled-2.ensures.schema
    (subst (λ (o : Resolved). FollowsBoth evolve_behind o c.compiled-2.result.now names before c.put_changes-stop.result mid) c.compiled.ensures c.put_changes-stop.ensures.follows)))
    (subst (λ (graph : Graph). TellsListed (violations new graph) mid c.list_violations.result after) c.graph-graph.ensures.graph c.list_violations.ensures.tells)

pub returns-else-is_unsafe-clause-follows : goal.returns-else-is_unsafe-clause-follows
returns-else-is_unsafe-clause-follows g c =
    let old = c.args.store.now.guard.schema in
    let new = c.args.schema.now.resolved in
    let names = c.args.names.now in
    let before = g.W.World.view c.args.world.now in
    let mid = g.W.World.view c.put_changes-stop.new.world in
    stored_same old new names c.args.store.now.guard.graph before mid
    (subst (λ (graph : Graph). is_graph graph ≡ true) c.graph-graph.ensures.graph c.count-count.ensures.graph) (by_verdict old c.args.store.now.guard.graph c.graph-graph.ensures.guarded.conforms) c.put_changes-stop.result
    (c.is_unsafe.ensures.other c.if-is_unsafe.false)
    (subst (λ (n : Resolved). FollowsBoth evolve_behind old n names before c.put_changes-stop.result mid) c.compiled-2.ensures.schema
    (subst (λ (o : Resolved). FollowsBoth evolve_behind o c.compiled-2.result.now names before c.put_changes-stop.result mid) c.compiled.ensures c.put_changes-stop.ensures.follows))
