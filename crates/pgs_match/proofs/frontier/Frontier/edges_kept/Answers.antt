use Rattle.std.proofs.Common.{◌+◌, ◌≤◌, [], ◌∷◌, length, flat_map, get_or, take, sym, ap, ◌∙◌, subst, arith}
use Rattle.std.specs.List.{sum_by}
use Rattle.std.proofs.lemmas.List.Elements.{Contains-get_or}
use Rattle.std.proofs.lemmas.List.Folds.{flat_map-map}
use Rattle.std.proofs.lemmas.List.Sums.{sum_by_more, sum_by_more_le}
use Rattle.pgs_base.specs.declared.element.NodeId.{NodeId}
use Rattle.pgs_base.specs.declared.element.Elem.TheVariants.{Node}
use Rattle.pgs_match.specs.declared.bindings.Bound.TheVariants as bounds
use Rattle.pgs_match.specs.declared.step.Step.TheVariants.{Along}
use Rattle.pgs_match.specs.Frontier.{kept_bounds, on_most, hop_most, IsPaidOn}
use Rattle.pgs_match.specs.Spread.{stand_at}
use Rattle.pgs_match.proofs.Along.{take_whole}
use Rattle.pgs_match.proofs.Behind.{sum_map}
use Rattle.pgs_match.proofs.Kept.{full_both, paid_twice}
use Rattle.pgs_match.proofs.Leading.{flat_next}
use Rattle.pgs_match.proofs.frontier.Frontier.edges_kept.Goals as goal

pub loop-from-preserved : goal.loop-from-preserved
loop-from-preserved g c =
    let search = c.args.self.now.asking.search in
    let graph = g.G.GraphRead.meaning search.graph.now in
    let resolved = search.compiled.now in
    let atoms = search.atoms.now in
    let off = c.args.self.now.asking.whole.now in
    let step = Along c.args.var 0 c.args.forward in
    let here = c.args.here.now in
    let past = c.loop-from.invariant in
    let nth = c.loop-from.from-index in
    let below = c.loop-from-test.true in
    let any : NodeId = record { 0 = 0 } in
    let added = c.add_edges_kept.ensures in
    let before = c.args.notes.now in
    let start = c.args.steps.now in
    let more = sum_by_more (λ (id : NodeId). on_most resolved graph atoms off 0 (step ∷ []) (bounds.Node id)) here nth any below in
    record {
      so_far = flat_next (λ (id : NodeId). kept_bounds resolved graph atoms off step (bounds.Node id)) [] c.loop-from.ends.items _ here nth any below past.so_far c.in_ok-add_edges_kept.ensures.added;
      right = added.right;
      full = full_both before c.loop-from.notes c.add_edges_kept.new.notes past.full added.full;
      no_step_back = omega (arith, past.no_step_back, added.no_step_back);
      cost = omega (arith, past.cost, added.cost, more);
      once =
          λ node pairs few closed all ahead.
          let most = λ (id : NodeId). hop_most graph (length off) (stand_at node (Node id)) in
          let id = get_or here nth any in
          subst (λ n. IsPaidOn graph pairs before c.add_edges_kept.new.notes start c.add_edges_kept.new.steps n) (sym (sum_by_more most here nth any below))
          (paid_twice graph pairs before c.loop-from.notes c.add_edges_kept.new.notes start c.loop-from.steps c.add_edges_kept.new.steps (sum_by most (take nth here)) (most id)
          added.full (past.once node pairs few closed all ahead) (c.in_ok-add_edges_kept.ensures.once node pairs few closed (all id (Contains-get_or here nth any below)) ahead));
    }

pub returns-in_err-add_edges_kept-clause-cost : goal.returns-in_err-add_edges_kept-clause-cost
returns-in_err-add_edges_kept-clause-cost g c =
    let search = c.args.self.now.asking.search in
    let graph = g.G.GraphRead.meaning search.graph.now in
    let most = on_most search.compiled.now graph search.atoms.now c.args.self.now.asking.whole.now 0 (Along c.args.var 0 c.args.forward ∷ []) in
    let any : NodeId = record { 0 = 0 } in
    let more = sum_by_more_le (λ (id : NodeId). most (bounds.Node id)) c.args.here.now c.loop-from.from-index any c.loop-from-test.true in
    let all = sum_map most bounds.Node c.args.here.now in
    omega (arith, c.loop-from.invariant.cost, c.add_edges_kept.ensures.cost, more, all)

pub returns-clause-all : goal.returns-clause-all
returns-clause-all g c =
    let search = c.args.self.now.asking.search in
    let graph = g.G.GraphRead.meaning search.graph.now in
    let kept = kept_bounds search.compiled.now graph search.atoms.now c.args.self.now.asking.whole.now (Along c.args.var 0 c.args.forward) in
    c.loop-from.invariant.so_far ∙ ap (flat_map (λ (id : NodeId). kept (bounds.Node id))) (take_whole c.args.here.now c.loop-from.from-index c.loop-from-test.false)
    ∙ sym (flat_map-map kept bounds.Node c.args.here.now)

pub returns-clause-cost : goal.returns-clause-cost
returns-clause-cost g c =
    let search = c.args.self.now.asking.search in
    let graph = g.G.GraphRead.meaning search.graph.now in
    let most = on_most search.compiled.now graph search.atoms.now c.args.self.now.asking.whole.now 0 (Along c.args.var 0 c.args.forward ∷ []) in
    subst (λ n. c.loop-from.steps ≤ c.args.steps.now + n)
    (ap (sum_by (λ (id : NodeId). most (bounds.Node id))) (take_whole c.args.here.now c.loop-from.from-index c.loop-from-test.false) ∙ sym (sum_map most bounds.Node c.args.here.now))
    c.loop-from.invariant.cost

pub returns-clause-once : goal.returns-clause-once
returns-clause-once g c =
    let search = c.args.self.now.asking.search in
    let graph = g.G.GraphRead.meaning search.graph.now in
    let off = c.args.self.now.asking.whole.now in
    λ node pairs few closed all ahead.
    let most = λ (id : NodeId). hop_most graph (length off) (stand_at node (Node id)) in
    subst (λ n. IsPaidOn graph pairs c.args.notes.now c.loop-from.notes c.args.steps.now c.loop-from.steps n)
    (ap (sum_by most) (take_whole c.args.here.now c.loop-from.from-index c.loop-from-test.false)) (c.loop-from.invariant.once node pairs few closed all ahead)
