use Rattle.std.proofs.Common.{◌+◌, ◌*◌, ◌≤◌, length, take, ap, subst, ◌∙◌, sym, arith}
use Rattle.std.specs.Prelude.{flat_map}
use Rattle.std.specs.Map.{keys_of}
use Rattle.pgs_graph.specs.Reads.{degree_of}
use Rattle.pgs_check.specs.Untyped.{is_untyped_edge, least_edge, edges_at, retyped_nodes}
use Rattle.pgs_check.proofs.Least.{still_settled}
use Rattle.pgs_check.proofs.Retyped.{retyped_more, retyped_same, retyped_has, nodes_last, turn_more, turn_past, turns_all, item_there}
use Rattle.pgs_check.proofs.Steps.{least_append, take_all}
use Rattle.pgs_check.proofs.untyped.least_at_changed.Goals as goal

pub least_at-found-requires : goal.least_at-found-requires
least_at-found-requires g c =
    let graph = g.G.GraphRead.meaning c.args.graph.now in
    still_settled (is_untyped_edge c.args.compiled.now graph) (keys_of c.args.tested.now) c.args.found c.loop-change.found
    (flat_map (edges_at graph) (retyped_nodes (g.O.GraphRead.meaning c.args.old.now) (take c.loop-change.change-index c.args.changes.now))) c.requires c.loop-change.invariant.so_far

pub loop-change-preserved-then-looks_as_before : goal.loop-change-preserved-then-looks_as_before
loop-change-preserved-then-looks_as_before g c =
    let old = g.O.GraphRead.meaning c.args.old.now in
    let graph = g.G.GraphRead.meaning c.args.graph.now in
    let i = c.loop-change.change-index in
    let same = retyped_same old c.args.changes.now i c.change-item.result c.change-item.is c.loop-change-test.true (sym c.looks_as_before.ensures.same ∙ c.if-looks_as_before.true) in
    record {
      so_far = c.loop-change.invariant.so_far ∙ ap (λ ids. least_edge (is_untyped_edge c.args.compiled.now graph) c.args.found (flat_map (edges_at graph) ids)) (sym same);
      no_step_back = omega arith;
      cost = λ most within.
          turn_past i (4 * most + 2) (length (retyped_nodes old (take i c.args.changes.now))) (length (retyped_nodes old (take (i + 1) c.args.changes.now))) (ap (λ ids. length ids) same)
          c.args.steps.now c.loop-change.steps c.looks_as_before.new.steps (c.loop-change.invariant.cost most within) c.looks_as_before.ensures.at_most;
    }

pub loop-change-preserved : goal.loop-change-preserved
loop-change-preserved g c =
    let old = g.O.GraphRead.meaning c.args.old.now in
    let graph = g.G.GraphRead.meaning c.args.graph.now in
    let test = is_untyped_edge c.args.compiled.now graph in
    let i = c.loop-change.change-index in
    let told = sym c.looks_as_before.ensures.same ∙ c.if-looks_as_before.false in
    let more = retyped_more old c.args.changes.now i c.change-item.result c.change-item.is c.loop-change-test.true told in
    let front = retyped_nodes old (take i c.args.changes.now) in
    record {
      so_far = c.least_at-found.ensures.least ∙ ap (λ found. least_edge test found (edges_at graph c.change-item.result.0)) c.loop-change.invariant.so_far
          ∙ sym (least_append test c.args.found (flat_map (edges_at graph) front) (edges_at graph c.change-item.result.0))
          ∙ ap (least_edge test c.args.found) (nodes_last (edges_at graph) front c.change-item.result.0 ∙ ap (flat_map (edges_at graph)) (sym more));
      no_step_back = omega arith;
      cost = λ most within.
          turn_more i (4 * most + 2) front c.change-item.result.0 (retyped_nodes old (take (i + 1) c.args.changes.now)) more
          c.args.steps.now c.loop-change.steps c.looks_as_before.new.steps c.least_at-found.new.steps (c.loop-change.invariant.cost most within) c.looks_as_before.ensures.at_most
          (let few : degree_of graph c.change-item.result.0 ≤ most =
          within c.change-item.result.0 (retyped_has old c.args.changes.now c.change-item.result (item_there c.args.changes.now i c.change-item.result c.change-item.is c.loop-change-test.true) told) in
          omega (arith, c.least_at-found.ensures.cost, few));
    }

pub returns-clause-least : goal.returns-clause-least
returns-clause-least g c =
    let graph = g.G.GraphRead.meaning c.args.graph.now in
    c.loop-change.invariant.so_far
    ∙ ap (λ xs. least_edge (is_untyped_edge c.args.compiled.now graph) c.args.found (flat_map (edges_at graph) (retyped_nodes (g.O.GraphRead.meaning c.args.old.now) xs)))
    (take_all c.args.changes.now c.loop-change.change-index c.loop-change-test.false)

pub returns-clause-cost : goal.returns-clause-cost
returns-clause-cost g c = λ most within.
    let old = g.O.GraphRead.meaning c.args.old.now in
    subst (λ xs. c.loop-change.steps ≤ c.args.steps.now + length c.args.changes.now + length (retyped_nodes old xs) * (4 * most + 2))
    (take_all c.args.changes.now c.loop-change.change-index c.loop-change-test.false)
    (turns_all c.loop-change.change-index (length c.args.changes.now) (length (retyped_nodes old (take c.loop-change.change-index c.args.changes.now)) * (4 * most + 2))
    c.args.steps.now c.loop-change.steps c.loop-change.auto.change-index-end (c.loop-change.invariant.cost most within))
