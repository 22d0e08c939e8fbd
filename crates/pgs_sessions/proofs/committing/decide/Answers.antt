use Rattle.std.proofs.Common.{◌≡◌, true, subst}
use Rattle.pgs_base.specs.Graph.{Graph, is_graph}
use Rattle.pgs_sessions.proofs.Committed.{done_from}
use Rattle.pgs_sessions.proofs.Costs.{asked_within, compared_within, staged_within}
use Rattle.pgs_sessions.proofs.committing.decide.Goals as goal

pub returns-in-Ok-apply-clause-decision : goal.returns-in-Ok-apply-clause-decision
returns-in-Ok-apply-clause-decision g c =
    done_from c.args.guard.now c.args.changes.now c.args.txn.now c.apply.new.self c.make_room_for.new.self c.set_all.new.self c.in-Ok.delta c.in_ok-elems.elems.items c.in-Ok-apply.commit
    c.args.limits.now c.requires.limits c.graph.result.now.graph c.graph-2.result.now.graph c.graph.ensures.graph c.graph-2.ensures.graph c.make_room_for.ensures.same c.differing.ensures.graph
    c.in-Ok.ensures.sound c.in-Ok.ensures.staged c.in_ok-elems.ensures.elems c.in-Ok-apply.ensures.accepted c.in-Ok-apply.ensures.kept c.in-Ok-apply.ensures.number c.set_all.ensures

pub returns-in-Err-Memory-clause-cost : goal.returns-in-Err-Memory-clause-cost
returns-in-Err-Memory-clause-cost g c = staged_within c.args.guard.now c.args.txn.now c.graph.result.now.graph c.graph.ensures.graph c.args.steps.now c.stage.new.steps c.stage.ensures.looks

pub returns-in-Err-Refused-clause-cost : goal.returns-in-Err-Refused-clause-cost
returns-in-Err-Refused-clause-cost g c = staged_within c.args.guard.now c.args.txn.now c.graph.result.now.graph c.graph.ensures.graph c.args.steps.now c.stage.new.steps c.stage.ensures.looks

pub returns-in_err-elems-clause-cost : goal.returns-in_err-elems-clause-cost
returns-in_err-elems-clause-cost g c =
    compared_within c.args.guard.now c.args.txn.now c.graph.result.now.graph c.graph.ensures.graph c.args.steps.now c.stage.new.steps c.stage.ensures.looks
    c.in-Ok.delta c.differing.new.steps c.in-Ok.ensures.lists_only c.in-Ok.ensures.sound (subst (λ (k : Graph). is_graph k ≡ true) c.graph-2.ensures.graph c.differing.ensures.graph) c.differing.ensures.looks

pub returns-in_err-make_room_for-clause-cost : goal.returns-in_err-make_room_for-clause-cost
returns-in_err-make_room_for-clause-cost g c =
    compared_within c.args.guard.now c.args.txn.now c.graph.result.now.graph c.graph.ensures.graph c.args.steps.now c.stage.new.steps c.stage.ensures.looks
    c.in-Ok.delta c.differing.new.steps c.in-Ok.ensures.lists_only c.in-Ok.ensures.sound (subst (λ (k : Graph). is_graph k ≡ true) c.graph-2.ensures.graph c.differing.ensures.graph) c.differing.ensures.looks

pub returns-in-Ok-apply-clause-cost : goal.returns-in-Ok-apply-clause-cost
returns-in-Ok-apply-clause-cost g c =
    asked_within c.args.guard.now c.args.txn.now c.graph.result.now.graph c.graph.ensures.graph c.args.steps.now c.stage.new.steps c.stage.ensures.looks
    c.in-Ok.delta c.differing.new.steps c.in-Ok.ensures.lists_only c.in-Ok.ensures.sound (subst (λ (k : Graph). is_graph k ≡ true) c.graph-2.ensures.graph c.differing.ensures.graph) c.differing.ensures.looks
    c.apply.new.steps c.apply.ensures.cost

pub returns-in-Err-Memory-apply-clause-cost : goal.returns-in-Err-Memory-apply-clause-cost
returns-in-Err-Memory-apply-clause-cost g c =
    asked_within c.args.guard.now c.args.txn.now c.graph.result.now.graph c.graph.ensures.graph c.args.steps.now c.stage.new.steps c.stage.ensures.looks
    c.in-Ok.delta c.differing.new.steps c.in-Ok.ensures.lists_only c.in-Ok.ensures.sound (subst (λ (k : Graph). is_graph k ≡ true) c.graph-2.ensures.graph c.differing.ensures.graph) c.differing.ensures.looks
    c.apply.new.steps c.apply.ensures.cost

pub returns-clause-cost : goal.returns-clause-cost
returns-clause-cost g c =
    asked_within c.args.guard.now c.args.txn.now c.graph.result.now.graph c.graph.ensures.graph c.args.steps.now c.stage.new.steps c.stage.ensures.looks
    c.in-Ok.delta c.differing.new.steps c.in-Ok.ensures.lists_only c.in-Ok.ensures.sound (subst (λ (k : Graph). is_graph k ≡ true) c.graph-2.ensures.graph c.differing.ensures.graph) c.differing.ensures.looks
    c.apply.new.steps c.apply.ensures.cost
