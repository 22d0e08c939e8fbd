use Rattle.std.proofs.Common.{length, ap, subst, arith}
use Rattle.std.specs.List.{flat_map, sum_by}
use Rattle.std.proofs.lemmas.List.Elements.{Contains-get_or}
use Rattle.pgs_base.specs.declared.element.NodeId.{NodeId}
use Rattle.pgs_base.specs.declared.element.Elem.TheVariants.{Node}
use Rattle.pgs_match.specs.Frontier.{hop_bounds, at_nodes, hop_most, AreAllOf}
use Rattle.pgs_match.specs.Spread.{stand_at}
use Rattle.pgs_match.proofs.Along.{take_whole}
use Rattle.pgs_match.proofs.Frontiers.{all_then, all_once, stay_then, paid_less, more_all, more_cost, more_once}
use Rattle.pgs_match.proofs.frontier.Frontier.all_behind.Goals as goal

pub loop-from-preserved : goal.loop-from-preserved
loop-from-preserved g c =
    let graph = g.G.GraphRead.meaning c.args.self.now.asking.search.graph.now in
    let resolved = c.args.self.now.asking.search.compiled.now in
    let atoms = c.args.self.now.asking.search.atoms.now in
    let off = c.args.self.now.asking.whole.now in
    let hop = c.args.hop in
    let here = c.args.here.now in
    let i = c.loop-from.from-index in
    let below = c.loop-from-test.true in
    let before = c.loop-from.invariant in
    let one = c.in_ok-add_behind.ensures in
    record {
      all = more_all resolved graph atoms off hop here i _ below c.loop-from.ends.items c.add_behind.new.ends.items before.all one.added;
      right = one.right;
      full = stay_then c.args.notes.now c.loop-from.notes c.add_behind.new.notes before.full one.full;
      no_step_back = omega (arith, before.no_step_back, one.no_step_back);
      cost = more_cost resolved graph atoms off hop here i _ below c.args.steps.now c.loop-from.steps c.add_behind.new.steps before.cost one.cost;
      once = λ var pairs few closed has along ahead.
          more_once resolved graph atoms off hop here i _ below var (length off) pairs c.args.notes.now c.loop-from.notes c.add_behind.new.notes c.args.steps.now c.loop-from.steps c.add_behind.new.steps
          one.full (before.once var pairs few closed has along ahead) (one.once var pairs few closed (has _ (Contains-get_or here i _ below)) along ahead);
    }

pub returns-clause-all : goal.returns-clause-all
returns-clause-all g c =
    let graph = g.G.GraphRead.meaning c.args.self.now.asking.search.graph.now in
    let resolved = c.args.self.now.asking.search.compiled.now in
    let atoms = c.args.self.now.asking.search.atoms.now in
    let off = c.args.self.now.asking.whole.now in
    let hop = c.args.hop in
    let here = c.args.here.now in
    let found = c.nodes_in_order.ensures in
    all_then (flat_map (hop_bounds resolved graph atoms off hop) here) (at_nodes c.loop-from.ends.items) (at_nodes c.nodes_in_order.result)
    (subst (λ l. AreAllOf (flat_map (hop_bounds resolved graph atoms off hop) l) (at_nodes c.loop-from.ends.items)) (take_whole here c.loop-from.from-index c.loop-from-test.false) c.loop-from.invariant.all)
    (all_once c.loop-from.ends.items c.nodes_in_order.result found.kept found.no_other found.few)

pub returns-clause-once : goal.returns-clause-once
returns-clause-once g c = λ var pairs few closed has along ahead.
    let graph = g.G.GraphRead.meaning c.args.self.now.asking.search.graph.now in
    let off = c.args.self.now.asking.whole.now in
    let whole = ap (sum_by (λ (id : NodeId). hop_most graph (length off) (stand_at var (Node id)))) (take_whole c.args.here.now c.loop-from.from-index c.loop-from-test.false) in
    paid_less graph pairs c.args.notes.now c.loop-from.notes c.args.steps.now c.loop-from.steps _ _ (c.loop-from.invariant.once var pairs few closed has along ahead) (omega (arith, whole))
