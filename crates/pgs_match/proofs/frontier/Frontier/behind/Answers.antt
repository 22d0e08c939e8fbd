use Rattle.std.proofs.Common.{◌≡◌, ◌+◌, ◌≤◌, [], Some, None, Vec, Global, length, flat_map, take, sym, ap, ◌∙◌, subst, arith}
use Rattle.std.specs.List.{Contains}
use Rattle.pgs_base.specs.declared.element.NodeId.{NodeId}
use Rattle.pgs_match.specs.declared.bindings.Bound.TheVariants as bounds
use Rattle.pgs_match.specs.Frontier.{at_nodes, hop_bounds, AreNoted, StayFull}
use Rattle.pgs_match.specs.Search.{edges_along}
use Rattle.pgs_match.proofs.Along.{past_end, at_place, take_whole, cost_more, cost_all}
use Rattle.pgs_match.proofs.BranchCosts.{listed_few}
use Rattle.pgs_match.proofs.Few.{few_along}
use Rattle.pgs_match.proofs.Kept.{full_both}
use Rattle.pgs_match.proofs.Leading.{flat_more}
use Rattle.pgs_match.proofs.Behind.{edge_on, ends_on, end_more, end_not, hop_cost, no_end_cost, end_cost, edge_in, edge_on_among, ends_of_node, all_in_order, paid_no_end, paid_end, paid_ends, paid_same}
use Rattle.pgs_match.proofs.frontier.Frontier.behind.Goals.{in-Some-edge_kept+in_ok-add_end_kept-in-Some, in_default, else-loop-nth-test, then-loop-nth-test+in-None}
use Rattle.pgs_match.proofs.frontier.Frontier.behind.Goals as goal

pub returns-in_err-add_end_kept-in-Some-clause-cost : goal.returns-in_err-add_end_kept-in-Some-clause-cost
returns-in_err-add_end_kept-in-Some-clause-cost g c =
    let search = c.args.self.now.asking.search in
    let graph = g.G.GraphRead.meaning search.graph.now in
    let resolved = search.compiled.now in
    let atoms = search.atoms.now in
    let off = c.args.self.now.asking.whole.now in
    let ids = edges_along graph c.args.hop.forward (Some (bounds.Node c.args.from)) in
    let on : edge_on resolved graph atoms off c.args.hop.edge c.in-Some.id ≡ Some c.in-Some-edge_kept.edge = sym c.edge_kept.ensures.value ∙ c.in-Some-edge_kept.is in
    let by = end_cost resolved graph atoms off c.args.hop c.in-Some.id c.in-Some-edge_kept.edge c.edge_along.new.steps c.edge_kept.new.steps c.add_end_kept.new.steps on c.edge_kept.ensures.cost c.add_end_kept.ensures.cost in
    cost_all (hop_cost resolved graph atoms off c.args.hop) ids c.loop-nth.nth c.in-Some.id (sym c.in-Some.ensures.value) c.args.steps.now c.loop-nth.steps c.add_end_kept.new.steps c.loop-nth.invariant.cost
    (omega (arith, c.edge_along.ensures.tick, by))

pub loop-nth-preserved : goal.loop-nth-preserved
loop-nth-preserved g c =
    let search = c.args.self.now.asking.search in
    let graph = g.G.GraphRead.meaning search.graph.now in
    let resolved = search.compiled.now in
    let atoms = search.atoms.now in
    let off = c.args.self.now.asking.whole.now in
    let hop = c.args.hop in
    let from = c.args.from in
    let ids = edges_along graph hop.forward (Some (bounds.Node from)) in
    let past = c.loop-nth.invariant in
    let nth = c.loop-nth.nth in
    let id = c.in-Some.id in
    let tick = c.edge_along.ensures.tick in
    let asked = c.edge_kept.ensures in
    let there = sym c.in-Some.ensures.value in
    let place = at_place ids nth id there in
    let listed : Contains ids id = (nth, place.0, place.1) in
    let before = c.args.notes.now in
    let start = c.args.steps.now in
    elim c.match-edge_kept.branch [
      | in-Some-edge_kept+in_ok-add_end_kept-in-Some w ↦
          let on : edge_on resolved graph atoms off hop.edge id ≡ Some w.in-Some-edge_kept.edge = sym asked.value ∙ w.in-Some-edge_kept.is in
          let added = w.add_end_kept.ensures in
          let after = w.add_end_kept.new.notes in
          record {
            so_far =
                flat_more (ends_on resolved graph atoms off hop) [] (at_nodes c.loop-nth.ends.items) (at_nodes c.match-edge_kept.ends.items) ids nth id place.0 place.1 past.so_far
                (end_more resolved graph atoms off hop id w.in-Some-edge_kept.edge (at_nodes c.loop-nth.ends.items) (at_nodes c.match-edge_kept.ends.items) on
                (ap (λ (v : Vec NodeId Global). at_nodes v.items) w.ends-is ∙ w.in_ok-add_end_kept-in-Some.ensures.added));
            reached = omega (arith, place.0);
            right = subst (AreNoted resolved graph atoms off) (sym w.notes-is) added.right;
            full = subst (StayFull before) (sym w.notes-is) (full_both before c.edge_kept.new.notes after (full_both before c.loop-nth.notes c.edge_kept.new.notes past.full asked.full) added.full);
            no_step_back = omega (arith, w.steps-is, tick, asked.no_step_back, added.no_step_back, past.no_step_back);
            cost =
                let by = end_cost resolved graph atoms off hop id w.in-Some-edge_kept.edge c.edge_along.new.steps c.edge_kept.new.steps w.add_end_kept.new.steps on asked.cost added.cost in
                cost_more (hop_cost resolved graph atoms off hop) ids nth id there start c.loop-nth.steps c.match-edge_kept.steps past.cost (omega (arith, w.steps-is, tick, by));
            once =
                λ var pairs few closed among ahead further.
                let one = asked.once pairs few closed (edge_in resolved graph atoms off pairs var hop.edge hop.forward from among ahead id listed) in
                let last = w.in_ok-add_end_kept-in-Some.ensures.once pairs few closed further
                (edge_on_among resolved graph atoms off pairs var hop.edge hop.forward from among ahead id w.in-Some-edge_kept.edge listed on) in
                paid_same graph pairs before after c.match-edge_kept.notes start w.add_end_kept.new.steps c.match-edge_kept.steps _ w.notes-is w.steps-is
                (paid_end graph pairs before c.loop-nth.notes c.edge_kept.new.notes after start c.loop-nth.steps c.edge_along.new.steps c.edge_kept.new.steps w.add_end_kept.new.steps nth (length off)
                asked.full added.full (past.once var pairs few closed among ahead further) tick one last);
          }
      | in_default w ↦
          let none : edge_on resolved graph atoms off hop.edge id ≡ None = sym asked.value ∙ w.in_default.is in
          let after = c.edge_kept.new.notes in
          record {
            so_far =
                flat_more (ends_on resolved graph atoms off hop) [] (at_nodes c.loop-nth.ends.items) (at_nodes c.match-edge_kept.ends.items) ids nth id place.0 place.1 past.so_far
                (end_not resolved graph atoms off hop id (at_nodes c.loop-nth.ends.items) (at_nodes c.match-edge_kept.ends.items) none (ap (λ (v : Vec NodeId Global). at_nodes v.items) w.ends-is));
            reached = omega (arith, place.0);
            right = subst (AreNoted resolved graph atoms off) (sym w.notes-is) asked.right;
            full = subst (StayFull before) (sym w.notes-is) (full_both before c.loop-nth.notes after past.full asked.full);
            no_step_back = omega (arith, w.steps-is, tick, asked.no_step_back, past.no_step_back);
            cost =
                let by = no_end_cost resolved graph atoms off hop id c.edge_along.new.steps c.edge_kept.new.steps asked.cost in
                cost_more (hop_cost resolved graph atoms off hop) ids nth id there start c.loop-nth.steps c.match-edge_kept.steps past.cost (omega (arith, w.steps-is, tick, by));
            once =
                λ var pairs few closed among ahead further.
                let one = asked.once pairs few closed (edge_in resolved graph atoms off pairs var hop.edge hop.forward from among ahead id listed) in
                paid_same graph pairs before after c.match-edge_kept.notes start c.edge_kept.new.steps c.match-edge_kept.steps _ w.notes-is w.steps-is
                (paid_no_end graph pairs before c.loop-nth.notes after start c.loop-nth.steps c.edge_along.new.steps c.edge_kept.new.steps nth (length off)
                asked.full (past.once var pairs few closed among ahead further) tick one);
          }
    ]

pub returns-clause-all : goal.returns-clause-all
returns-clause-all g c =
    let search = c.args.self.now.asking.search in
    let graph = g.G.GraphRead.meaning search.graph.now in
    let resolved = search.compiled.now in
    let atoms = search.atoms.now in
    let off = c.args.self.now.asking.whole.now in
    let ids = edges_along graph c.args.hop.forward (Some (bounds.Node c.args.from)) in
    let nth = c.loop-nth.nth in
    let all : take nth ids ≡ ids =
    elim c.loop-nth-test.branch [
      | else-loop-nth-test w ↦ take_whole ids nth (let over = w.loop-nth-test.false in omega (arith, few_along graph c.args.from c.args.hop.forward, c.count-nth-end.ensures.value, over))
      | then-loop-nth-test+in-None w ↦ take_whole ids nth (past_end ids nth (sym w.in-None.ensures.value))
    ] in
    all_in_order c.loop-nth.ends.items c.nodes_in_order.result (hop_bounds resolved graph atoms off c.args.hop c.args.from)
    (c.loop-nth.invariant.so_far ∙ ap (flat_map (ends_on resolved graph atoms off c.args.hop)) all ∙ ends_of_node resolved graph atoms off c.args.hop c.args.from)
    c.nodes_in_order.ensures.kept c.nodes_in_order.ensures.no_other c.nodes_in_order.ensures.few

pub returns-clause-once : goal.returns-clause-once
returns-clause-once g c =
    let search = c.args.self.now.asking.search in
    let graph = g.G.GraphRead.meaning search.graph.now in
    let resolved = search.compiled.now in
    let atoms = search.atoms.now in
    let off = c.args.self.now.asking.whole.now in
    let from = c.args.from in
    let ids = edges_along graph c.args.hop.forward (Some (bounds.Node from)) in
    λ var pairs few closed among ahead further.
    let last : c.loop-nth-test.steps ≤ c.loop-nth.steps + 1 =
    elim c.loop-nth-test.branch [
      | else-loop-nth-test w ↦ let is = w.steps-is in omega (arith, is)
      | then-loop-nth-test+in-None w ↦ let is = w.steps-is in let tick = w.edge_along.ensures.tick in omega (arith, is, tick)
    ] in
    paid_ends graph pairs c.args.notes.now c.loop-nth.notes c.args.steps.now c.loop-nth.steps c.loop-nth-test.steps c.loop-nth.nth (length ids) _ (length off)
    c.loop-nth.invariant.reached (listed_few resolved graph atoms c.args.hop.forward (bounds.Node from)) last (c.loop-nth.invariant.once var pairs few closed among ahead further)
