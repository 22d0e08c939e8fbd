use Rattle.std.proofs.Common.{◌≡◌, ◌∷◌, length, sym, ap, ◌∙◌, subst, arith}
use Rattle.std.specs.List.{flat_map}
use Rattle.std.proofs.lemmas.Result.{IfOk-weaker, on_ok_weaker}
use Rattle.pgs_match.specs.declared.step.Step.{Step}
use Rattle.pgs_match.specs.declared.step.Step.TheVariants.{Along, End}
use Rattle.pgs_match.specs.Frontier.{hop_bounds, at_nodes, led_on, AreAllOf, AreApart}
use Rattle.pgs_match.proofs.Frontiers.{all_is, none_from, none_after, few_nodes, last_all, edges_all, edges_cost, edges_ahead, edges_once, edges_few, tried_cost, lead_all, lead_cost, lead_path, lead_along, lead_ahead, lead_way, lead_once}
use Rattle.pgs_match.proofs.Kept.{full_both}
use Rattle.pgs_match.proofs.frontier.Frontier.+leading.Goals as goal

pub returns-in_err-next-in-Some-End-default-head-clause-cost : goal.returns-in_err-next-in-Some-End-default-head-clause-cost
returns-in_err-next-in-Some-End-default-head-clause-cost g t c =
    let graph = g.G.GraphRead.meaning c.args.self.now.asking.search.graph.now in
    let resolved = c.args.self.now.asking.search.compiled.now in
    let atoms = c.args.self.now.asking.search.atoms.now in
    let off = c.args.self.now.asking.whole.now in
    let ways = c.args.ways.now in
    let here = c.args.here.now in
    let one = c.in-Some-Along-default in
    let first : ways ≡ Along one.edge one.field-0-0-1 one.forward ∷ one.rest.now = one.ensures ∙ ap (λ (step : Step). step ∷ one.rest.now) one.field-0-0-is in
    let two = c.in-Some-End-default-head in
    let second : one.rest.now ≡ End two.field-0-0-0 two.node two.source ∷ two.rest.now = two.ensures ∙ ap (λ (step : Step). step ∷ two.rest.now) two.field-0-0-is in
    tried_cost resolved graph atoms off ways one.rest.now two.rest.now here one.edge one.field-0-0-1 two.field-0-0-0 two.node one.forward two.source first second c.args.steps.now c.all_behind.new.steps c.all_behind.ensures.cost

pub returns-in-None-clause-all : goal.returns-in-None-clause-all
returns-in-None-clause-all g t c =
    let graph = g.G.GraphRead.meaning c.args.self.now.asking.search.graph.now in
    let resolved = c.args.self.now.asking.search.compiled.now in
    let atoms = c.args.self.now.asking.search.atoms.now in
    let off = c.args.self.now.asking.whole.now in
    let ways = c.args.ways.now in
    let here = c.args.here.now in
    IfOk-weaker c.nodes_bound.result _ _ (λ ends same. last_all resolved graph atoms off ways here c.in-None.ensures ends.items same) c.nodes_bound.ensures

pub returns-in-None-clause-few : goal.returns-in-None-clause-few
returns-in-None-clause-few g t c =
    let graph = g.G.GraphRead.meaning c.args.self.now.asking.search.graph.now in
    let resolved = c.args.self.now.asking.search.compiled.now in
    let atoms = c.args.self.now.asking.search.atoms.now in
    let off = c.args.self.now.asking.whole.now in
    let here = c.args.here.now in
    λ var pairs path apart way.
    IfOk-weaker c.nodes_bound.result _ _
    (λ ends same. let few = few_nodes resolved graph atoms off var here pairs apart way.0 in let long = ap length same in omega (arith, few, long)) c.nodes_bound.ensures

pub returns-in-Some-End-default-clause-all : goal.returns-in-Some-End-default-clause-all
returns-in-Some-End-default-clause-all g t c =
    let graph = g.G.GraphRead.meaning c.args.self.now.asking.search.graph.now in
    let resolved = c.args.self.now.asking.search.compiled.now in
    let atoms = c.args.self.now.asking.search.atoms.now in
    let off = c.args.self.now.asking.whole.now in
    let ways = c.args.ways.now in
    let here = c.args.here.now in
    let one = c.in-Some-End-default in
    let first : ways ≡ End one.field-0-0-0 one.field-0-0-1 one.field-0-0-2 ∷ one.field-0-1.now = one.ensures ∙ ap (λ (step : Step). step ∷ one.field-0-1.now) one.field-0-0-is in
    subst (λ w. AreAllOf (flat_map (led_on resolved graph atoms off w) (at_nodes here)) c.new.result.items) (sym first)
    (all_is (flat_map (led_on resolved graph atoms off (End one.field-0-0-0 one.field-0-0-1 one.field-0-0-2 ∷ one.field-0-1.now)) (at_nodes here)) c.new.result.items
    (c.new.ensures.items ∙ sym (none_from resolved graph atoms off one.field-0-1.now one.field-0-0-0 one.field-0-0-1 one.field-0-0-2 here)))

pub returns-in-None-head-clause-all : goal.returns-in-None-head-clause-all
returns-in-None-head-clause-all g t c =
    let graph = g.G.GraphRead.meaning c.args.self.now.asking.search.graph.now in
    let resolved = c.args.self.now.asking.search.compiled.now in
    let atoms = c.args.self.now.asking.search.atoms.now in
    let off = c.args.self.now.asking.whole.now in
    let ways = c.args.ways.now in
    let here = c.args.here.now in
    let one = c.in-Some-Along-default in
    let first : ways ≡ Along one.edge one.field-0-0-1 one.forward ∷ one.rest.now = one.ensures ∙ ap (λ (step : Step). step ∷ one.rest.now) one.field-0-0-is in
    IfOk-weaker c.edges_kept.result _ _ (λ ends same. edges_all resolved graph atoms off ways one.rest.now here one.edge one.field-0-0-1 one.forward first c.in-None-head.ensures ends.items same) c.edges_kept.ensures.all

pub returns-in-None-head-clause-cost : goal.returns-in-None-head-clause-cost
returns-in-None-head-clause-cost g t c =
    let graph = g.G.GraphRead.meaning c.args.self.now.asking.search.graph.now in
    let resolved = c.args.self.now.asking.search.compiled.now in
    let atoms = c.args.self.now.asking.search.atoms.now in
    let off = c.args.self.now.asking.whole.now in
    let ways = c.args.ways.now in
    let here = c.args.here.now in
    let one = c.in-Some-Along-default in
    let first : ways ≡ Along one.edge one.field-0-0-1 one.forward ∷ one.rest.now = one.ensures ∙ ap (λ (step : Step). step ∷ one.rest.now) one.field-0-0-is in
    edges_cost resolved graph atoms off ways one.rest.now here one.edge one.field-0-0-1 one.forward first c.in-None-head.ensures c.args.steps.now c.edges_kept.new.steps c.edges_kept.ensures.cost

pub returns-in-None-head-clause-once : goal.returns-in-None-head-clause-once
returns-in-None-head-clause-once g t c =
    let graph = g.G.GraphRead.meaning c.args.self.now.asking.search.graph.now in
    let resolved = c.args.self.now.asking.search.compiled.now in
    let atoms = c.args.self.now.asking.search.atoms.now in
    let off = c.args.self.now.asking.whole.now in
    let ways = c.args.ways.now in
    let here = c.args.here.now in
    let one = c.in-Some-Along-default in
    let first : ways ≡ Along one.edge one.field-0-0-1 one.forward ∷ one.rest.now = one.ensures ∙ ap (λ (step : Step). step ∷ one.rest.now) one.field-0-0-is in
    λ var pairs few path apart way.
    on_ok_weaker c.edges_kept.result
    (edges_once resolved graph atoms off ways one.rest.now here one.edge one.field-0-0-1 one.forward first c.in-None-head.ensures var pairs path apart way (length off) c.args.notes.now c.edges_kept.new.notes c.args.steps.now c.edges_kept.new.steps)
    (c.edges_kept.ensures.once var pairs few way.2 way.0 (edges_ahead resolved graph atoms off ways one.rest.now here one.edge one.field-0-0-1 one.forward first c.in-None-head.ensures var pairs path apart way))

pub returns-in-None-head-clause-few : goal.returns-in-None-head-clause-few
returns-in-None-head-clause-few g t c =
    let graph = g.G.GraphRead.meaning c.args.self.now.asking.search.graph.now in
    let resolved = c.args.self.now.asking.search.compiled.now in
    let atoms = c.args.self.now.asking.search.atoms.now in
    let off = c.args.self.now.asking.whole.now in
    let ways = c.args.ways.now in
    let here = c.args.here.now in
    let one = c.in-Some-Along-default in
    let first : ways ≡ Along one.edge one.field-0-0-1 one.forward ∷ one.rest.now = one.ensures ∙ ap (λ (step : Step). step ∷ one.rest.now) one.field-0-0-is in
    λ var pairs path apart way.
    IfOk-weaker c.edges_kept.result _ _ (λ ends same. edges_few resolved graph atoms off ways one.rest.now here one.edge one.field-0-0-1 one.forward first c.in-None-head.ensures var pairs path apart way ends.items same) c.edges_kept.ensures.all

pub returns-in-Some-Along-default-head-clause-all : goal.returns-in-Some-Along-default-head-clause-all
returns-in-Some-Along-default-head-clause-all g t c =
    let graph = g.G.GraphRead.meaning c.args.self.now.asking.search.graph.now in
    let resolved = c.args.self.now.asking.search.compiled.now in
    let atoms = c.args.self.now.asking.search.atoms.now in
    let off = c.args.self.now.asking.whole.now in
    let ways = c.args.ways.now in
    let here = c.args.here.now in
    let one = c.in-Some-Along-default in
    let first : ways ≡ Along one.edge one.field-0-0-1 one.forward ∷ one.rest.now = one.ensures ∙ ap (λ (step : Step). step ∷ one.rest.now) one.field-0-0-is in
    let two = c.in-Some-Along-default-head in
    let whole : ways ≡ Along one.edge one.field-0-0-1 one.forward ∷ Along two.field-0-0-0 two.field-0-0-1 two.field-0-0-2 ∷ two.field-0-1.now =
    first ∙ ap (λ l. Along one.edge one.field-0-0-1 one.forward ∷ l) (two.ensures ∙ ap (λ (step : Step). step ∷ two.field-0-1.now) two.field-0-0-is) in
    subst (λ w. AreAllOf (flat_map (led_on resolved graph atoms off w) (at_nodes here)) c.new-in-Some-Along-default-head.result.items) (sym whole)
    (all_is (flat_map (led_on resolved graph atoms off (Along one.edge one.field-0-0-1 one.forward ∷ Along two.field-0-0-0 two.field-0-0-1 two.field-0-0-2 ∷ two.field-0-1.now)) (at_nodes here))
    c.new-in-Some-Along-default-head.result.items
    (c.new-in-Some-Along-default-head.ensures.items
    ∙ sym (none_after resolved graph atoms off two.field-0-1.now one.edge one.field-0-0-1 two.field-0-0-0 two.field-0-0-1 one.forward two.field-0-0-2 here)))

pub returns-in_ok-next-in-Some-End-default-head-clause-all : goal.returns-in_ok-next-in-Some-End-default-head-clause-all
returns-in_ok-next-in-Some-End-default-head-clause-all g t c =
    let graph = g.G.GraphRead.meaning c.args.self.now.asking.search.graph.now in
    let resolved = c.args.self.now.asking.search.compiled.now in
    let atoms = c.args.self.now.asking.search.atoms.now in
    let off = c.args.self.now.asking.whole.now in
    let ways = c.args.ways.now in
    let here = c.args.here.now in
    let one = c.in-Some-Along-default in
    let first : ways ≡ Along one.edge one.field-0-0-1 one.forward ∷ one.rest.now = one.ensures ∙ ap (λ (step : Step). step ∷ one.rest.now) one.field-0-0-is in
    let two = c.in-Some-End-default-head in
    let second : one.rest.now ≡ End two.field-0-0-0 two.node two.source ∷ two.rest.now = two.ensures ∙ ap (λ (step : Step). step ∷ two.rest.now) two.field-0-0-is in
    let found = c.in_ok-next-in-Some-End-default-head.ensures in
    let next = c.as_slice.result.now in
    let all : AreAllOf (flat_map (hop_bounds resolved graph atoms off (record { edge = one.edge; forward = one.forward; node = two.node; source = two.source })) here) (at_nodes next) =
    subst (λ l. AreAllOf (flat_map (hop_bounds resolved graph atoms off (record { edge = one.edge; forward = one.forward; node = two.node; source = two.source })) here) (at_nodes l)) (sym c.as_slice.ensures) found.all in
    IfOk-weaker c.lead_on.result _ _ (λ ends last. lead_all resolved graph atoms off ways one.rest.now two.rest.now here next one.edge one.field-0-0-1 two.field-0-0-0 two.node one.forward two.source first second all ends.items last) c.lead_on.ensures.all

pub returns-in_ok-next-in-Some-End-default-head-clause-cost : goal.returns-in_ok-next-in-Some-End-default-head-clause-cost
returns-in_ok-next-in-Some-End-default-head-clause-cost g t c =
    let graph = g.G.GraphRead.meaning c.args.self.now.asking.search.graph.now in
    let resolved = c.args.self.now.asking.search.compiled.now in
    let atoms = c.args.self.now.asking.search.atoms.now in
    let off = c.args.self.now.asking.whole.now in
    let ways = c.args.ways.now in
    let here = c.args.here.now in
    let one = c.in-Some-Along-default in
    let first : ways ≡ Along one.edge one.field-0-0-1 one.forward ∷ one.rest.now = one.ensures ∙ ap (λ (step : Step). step ∷ one.rest.now) one.field-0-0-is in
    let two = c.in-Some-End-default-head in
    let second : one.rest.now ≡ End two.field-0-0-0 two.node two.source ∷ two.rest.now = two.ensures ∙ ap (λ (step : Step). step ∷ two.rest.now) two.field-0-0-is in
    let found = c.in_ok-next-in-Some-End-default-head.ensures in
    let next = c.as_slice.result.now in
    let all : AreAllOf (flat_map (hop_bounds resolved graph atoms off (record { edge = one.edge; forward = one.forward; node = two.node; source = two.source })) here) (at_nodes next) =
    subst (λ l. AreAllOf (flat_map (hop_bounds resolved graph atoms off (record { edge = one.edge; forward = one.forward; node = two.node; source = two.source })) here) (at_nodes l)) (sym c.as_slice.ensures) found.all in
    lead_cost resolved graph atoms off ways one.rest.now two.rest.now here next one.edge one.field-0-0-1 two.field-0-0-0 two.node one.forward two.source first second all c.args.steps.now c.all_behind.new.steps c.lead_on.new.steps found.cost c.lead_on.ensures.cost

pub returns-in_ok-next-in-Some-End-default-head-clause-once : goal.returns-in_ok-next-in-Some-End-default-head-clause-once
returns-in_ok-next-in-Some-End-default-head-clause-once g t c =
    let graph = g.G.GraphRead.meaning c.args.self.now.asking.search.graph.now in
    let resolved = c.args.self.now.asking.search.compiled.now in
    let atoms = c.args.self.now.asking.search.atoms.now in
    let off = c.args.self.now.asking.whole.now in
    let ways = c.args.ways.now in
    let here = c.args.here.now in
    let one = c.in-Some-Along-default in
    let first : ways ≡ Along one.edge one.field-0-0-1 one.forward ∷ one.rest.now = one.ensures ∙ ap (λ (step : Step). step ∷ one.rest.now) one.field-0-0-is in
    let two = c.in-Some-End-default-head in
    let second : one.rest.now ≡ End two.field-0-0-0 two.node two.source ∷ two.rest.now = two.ensures ∙ ap (λ (step : Step). step ∷ two.rest.now) two.field-0-0-is in
    let found = c.in_ok-next-in-Some-End-default-head.ensures in
    let next = c.as_slice.result.now in
    let all : AreAllOf (flat_map (hop_bounds resolved graph atoms off (record { edge = one.edge; forward = one.forward; node = two.node; source = two.source })) here) (at_nodes next) =
    subst (λ l. AreAllOf (flat_map (hop_bounds resolved graph atoms off (record { edge = one.edge; forward = one.forward; node = two.node; source = two.source })) here) (at_nodes l)) (sym c.as_slice.ensures) found.all in
    λ var pairs few path apart way.
    let early = found.once var pairs few way.2 way.0 (lead_along resolved graph atoms off ways one.rest.now two.rest.now here next one.edge one.field-0-0-1 two.field-0-0-0 two.node one.forward two.source first second all var pairs path way) (lead_ahead resolved graph atoms off ways one.rest.now two.rest.now here next one.edge one.field-0-0-1 two.field-0-0-0 two.node one.forward two.source first second all var pairs path way) in
    on_ok_weaker c.lead_on.result
    (lead_once resolved graph atoms off ways one.rest.now two.rest.now here next one.edge one.field-0-0-1 two.field-0-0-0 two.node one.forward two.source first second all var pairs path way (length off) apart c.args.notes.now c.all_behind.new.notes c.lead_on.new.notes c.args.steps.now c.all_behind.new.steps c.lead_on.new.steps c.lead_on.ensures.full early)
    (c.lead_on.ensures.once two.node pairs few (lead_path resolved graph atoms off ways one.rest.now two.rest.now here next one.edge one.field-0-0-1 two.field-0-0-0 two.node one.forward two.source first second all var pairs path way) (subst AreApart (sym c.as_slice.ensures) found.apart) (lead_way resolved graph atoms off ways one.rest.now two.rest.now here next one.edge one.field-0-0-1 two.field-0-0-0 two.node one.forward two.source first second all var pairs path way))

pub returns-in_ok-next-in-Some-End-default-head-clause-few : goal.returns-in_ok-next-in-Some-End-default-head-clause-few
returns-in_ok-next-in-Some-End-default-head-clause-few g t c =
    let graph = g.G.GraphRead.meaning c.args.self.now.asking.search.graph.now in
    let resolved = c.args.self.now.asking.search.compiled.now in
    let atoms = c.args.self.now.asking.search.atoms.now in
    let off = c.args.self.now.asking.whole.now in
    let ways = c.args.ways.now in
    let here = c.args.here.now in
    let one = c.in-Some-Along-default in
    let first : ways ≡ Along one.edge one.field-0-0-1 one.forward ∷ one.rest.now = one.ensures ∙ ap (λ (step : Step). step ∷ one.rest.now) one.field-0-0-is in
    let two = c.in-Some-End-default-head in
    let second : one.rest.now ≡ End two.field-0-0-0 two.node two.source ∷ two.rest.now = two.ensures ∙ ap (λ (step : Step). step ∷ two.rest.now) two.field-0-0-is in
    let found = c.in_ok-next-in-Some-End-default-head.ensures in
    let next = c.as_slice.result.now in
    let all : AreAllOf (flat_map (hop_bounds resolved graph atoms off (record { edge = one.edge; forward = one.forward; node = two.node; source = two.source })) here) (at_nodes next) =
    subst (λ l. AreAllOf (flat_map (hop_bounds resolved graph atoms off (record { edge = one.edge; forward = one.forward; node = two.node; source = two.source })) here) (at_nodes l)) (sym c.as_slice.ensures) found.all in
    λ var pairs path apart way.
    c.lead_on.ensures.few two.node pairs (lead_path resolved graph atoms off ways one.rest.now two.rest.now here next one.edge one.field-0-0-1 two.field-0-0-0 two.node one.forward two.source first second all var pairs path way) (subst AreApart (sym c.as_slice.ensures) found.apart) (lead_way resolved graph atoms off ways one.rest.now two.rest.now here next one.edge one.field-0-0-1 two.field-0-0-0 two.node one.forward two.source first second all var pairs path way)

pub returns-in_ok-next-in-Some-End-default-head-clause-full : goal.returns-in_ok-next-in-Some-End-default-head-clause-full
returns-in_ok-next-in-Some-End-default-head-clause-full g t c =
    full_both c.args.notes.now c.all_behind.new.notes c.lead_on.new.notes c.all_behind.ensures.full c.lead_on.ensures.full
