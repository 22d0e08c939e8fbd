use Rattle.std.proofs.Common.{◌≡◌, ◌+◌, ◌*◌, ◌^◌, ◌≤◌, true, [], length, map, nat_lt, refl, sym, ap, ◌∙◌, subst, arith}
use Rattle.std.specs.Option.{option_map_or}
use Rattle.std.specs.List.{list_all, sum_by}
use Rattle.pgs_syntax.specs.Valid.{read_var}
use Rattle.pgs_match.specs.declared.stand.Stand.{Stand}
use Rattle.pgs_match.specs.Answers.{EndsIn, IsAmong}
use Rattle.pgs_match.specs.Bounds.{with_bound, nothing_bound}
use Rattle.pgs_match.specs.Frontier.{leads_to_one, unasked, hops_most}
use Rattle.pgs_match.specs.Plans.{bound_by}
use Rattle.pgs_match.specs.Routes.{on_way, off_way}
use Rattle.pgs_match.specs.Search.{gathered}
use Rattle.pgs_match.specs.Spread.{elem_degree}
use Rattle.pgs_match.specs.Tests.{admitted}
use Rattle.pgs_match.proofs.FrontierPlans.{vars_in_range, off_ends, off_few, closed_parts}
use Rattle.pgs_match.proofs.Known.{valid_most}
use Rattle.pgs_match.proofs.Learning.{x_among}
use Rattle.pgs_match.proofs.Scopes.{ok_same}
use Rattle.pgs_match.proofs.Searched.{IsSame}
use Rattle.pgs_match.proofs.ToOne.{ok_more, on_more, noted_as, noted_back, closed_as, once_total}
use Rattle.pgs_match.proofs.WayFound.{tuples_found, tuples_few, cost_sparse, cost_routes, cost_walks}
use Rattle.pgs_match.proofs.searching.Place.tuples_by_nodes.Goals as goal

pub tuples_to_one-requires-clause-place : goal.tuples_to_one-requires-clause-place
tuples_to_one-requires-clause-place g c =
    let place = c.args.self.now in
    let graph = g.G.GraphRead.meaning place.graph.now in
    let search = c.search-search.result in
    let other = g.G.GraphRead.meaning search.graph.now in
    let same : IsSame search.compiled.now place.compiled.now other graph search.atoms.now place.pattern.now.atoms =
    record {
      schemas = ap (λ r. r.now) c.search-search.ensures.compiled;
      graphs = ap (λ r. g.G.GraphRead.meaning r.now) c.search-search.ensures.graph;
      lists = c.search-search.ensures.atoms;
    } in
    let on_is = c.as_slice-on.ensures ∙ c.requires.plan.1 in
    let off_is = c.as_slice-off.ensures ∙ c.requires.plan.2 in
    let steps = c.args.plan.now.steps in
    let wanted = map read_var c.args.exprs.now in
    subst (λ off. EndsIn off off) (sym off_is) (off_ends place.pattern.now c.args.var steps wanted c.requires.valid c.requires.plan.0)

pub tuples_to_one-requires-clause-right : goal.tuples_to_one-requires-clause-right
tuples_to_one-requires-clause-right g c =
    let place = c.args.self.now in
    let graph = g.G.GraphRead.meaning place.graph.now in
    let search = c.search-search.result in
    let other = g.G.GraphRead.meaning search.graph.now in
    let same : IsSame search.compiled.now place.compiled.now other graph search.atoms.now place.pattern.now.atoms =
    record {
      schemas = ap (λ r. r.now) c.search-search.ensures.compiled;
      graphs = ap (λ r. g.G.GraphRead.meaning r.now) c.search-search.ensures.graph;
      lists = c.search-search.ensures.atoms;
    } in
    let on_is = c.as_slice-on.ensures ∙ c.requires.plan.1 in
    let off_is = c.as_slice-off.ensures ∙ c.requires.plan.2 in
    let steps = c.args.plan.now.steps in
    let wanted = map read_var c.args.exprs.now in
    noted_as search.compiled.now place.compiled.now other graph search.atoms.now place.pattern.now.atoms same c.as_slice-off.result.now c.args.plan.now.off c.as_slice-off.ensures c.args.notes.now c.requires.right

pub tuples_to_one-requires-clause-variable : goal.tuples_to_one-requires-clause-variable
tuples_to_one-requires-clause-variable g c =
    let place = c.args.self.now in
    let graph = g.G.GraphRead.meaning place.graph.now in
    let search = c.search-search.result in
    let other = g.G.GraphRead.meaning search.graph.now in
    let same : IsSame search.compiled.now place.compiled.now other graph search.atoms.now place.pattern.now.atoms =
    record {
      schemas = ap (λ r. r.now) c.search-search.ensures.compiled;
      graphs = ap (λ r. g.G.GraphRead.meaning r.now) c.search-search.ensures.graph;
      lists = c.search-search.ensures.atoms;
    } in
    let on_is = c.as_slice-on.ensures ∙ c.requires.plan.1 in
    let off_is = c.as_slice-off.ensures ∙ c.requires.plan.2 in
    let steps = c.args.plan.now.steps in
    let wanted = map read_var c.args.exprs.now in
    let most = valid_most place.pattern.now c.requires.valid in omega (arith, most, c.requires.in_range)

pub tuples_to_one-requires-clause-in_range : goal.tuples_to_one-requires-clause-in_range
tuples_to_one-requires-clause-in_range g c =
    let place = c.args.self.now in
    let graph = g.G.GraphRead.meaning place.graph.now in
    let search = c.search-search.result in
    let other = g.G.GraphRead.meaning search.graph.now in
    let same : IsSame search.compiled.now place.compiled.now other graph search.atoms.now place.pattern.now.atoms =
    record {
      schemas = ap (λ r. r.now) c.search-search.ensures.compiled;
      graphs = ap (λ r. g.G.GraphRead.meaning r.now) c.search-search.ensures.graph;
      lists = c.search-search.ensures.atoms;
    } in
    let on_is = c.as_slice-on.ensures ∙ c.requires.plan.1 in
    let off_is = c.as_slice-off.ensures ∙ c.requires.plan.2 in
    let steps = c.args.plan.now.steps in
    let wanted = map read_var c.args.exprs.now in
    subst (λ on. list_all (λ step. nat_lt (bound_by step) 20) on ≡ true) (sym on_is) (vars_in_range place.pattern.now c.args.var steps wanted c.requires.valid c.requires.plan.0)

pub tuples_to_one-requires-clause-one : goal.tuples_to_one-requires-clause-one
tuples_to_one-requires-clause-one g c =
    let place = c.args.self.now in
    let graph = g.G.GraphRead.meaning place.graph.now in
    let search = c.search-search.result in
    let other = g.G.GraphRead.meaning search.graph.now in
    let same : IsSame search.compiled.now place.compiled.now other graph search.atoms.now place.pattern.now.atoms =
    record {
      schemas = ap (λ r. r.now) c.search-search.ensures.compiled;
      graphs = ap (λ r. g.G.GraphRead.meaning r.now) c.search-search.ensures.graph;
      lists = c.search-search.ensures.atoms;
    } in
    let on_is = c.as_slice-on.ensures ∙ c.requires.plan.1 in
    let off_is = c.as_slice-off.ensures ∙ c.requires.plan.2 in
    let steps = c.args.plan.now.steps in
    let wanted = map read_var c.args.exprs.now in
    subst (λ on. leads_to_one c.args.var on c.args.exprs.now ≡ true) (sym c.as_slice-on.ensures) c.requires.one

pub returns-clause-cost : goal.returns-clause-cost
returns-clause-cost g c =
    let place = c.args.self.now in
    let graph = g.G.GraphRead.meaning place.graph.now in
    let search = c.search-search.result in
    let other = g.G.GraphRead.meaning search.graph.now in
    let same : IsSame search.compiled.now place.compiled.now other graph search.atoms.now place.pattern.now.atoms =
    record {
      schemas = ap (λ r. r.now) c.search-search.ensures.compiled;
      graphs = ap (λ r. g.G.GraphRead.meaning r.now) c.search-search.ensures.graph;
      lists = c.search-search.ensures.atoms;
    } in
    let on_is = c.as_slice-on.ensures ∙ c.requires.plan.1 in
    let off_is = c.as_slice-off.ensures ∙ c.requires.plan.2 in
    let steps = c.args.plan.now.steps in
    let wanted = map read_var c.args.exprs.now in
    cost_sparse place.compiled.now graph place.pattern.now c.requires.valid c.args.var c.requires.in_range steps c.requires.plan.0 c.args.elem c.args.exprs.now search.compiled.now other search.atoms.now same c.as_slice-on.result.now c.as_slice-off.result.now on_is off_is nothing_bound refl c.begin-admitted.result c.begin-admitted.ensures.value c.begin-admitted.ensures.graph c.requires.few_exprs c.args.steps.now c.begin-admitted.new.steps c.tuples_to_one.new.steps c.begin-admitted.ensures.at_most c.tuples_to_one.ensures.cost

pub returns-clause-routes : goal.returns-clause-routes
returns-clause-routes g c =
    let place = c.args.self.now in
    let graph = g.G.GraphRead.meaning place.graph.now in
    let search = c.search-search.result in
    let other = g.G.GraphRead.meaning search.graph.now in
    let same : IsSame search.compiled.now place.compiled.now other graph search.atoms.now place.pattern.now.atoms =
    record {
      schemas = ap (λ r. r.now) c.search-search.ensures.compiled;
      graphs = ap (λ r. g.G.GraphRead.meaning r.now) c.search-search.ensures.graph;
      lists = c.search-search.ensures.atoms;
    } in
    let on_is = c.as_slice-on.ensures ∙ c.requires.plan.1 in
    let off_is = c.as_slice-off.ensures ∙ c.requires.plan.2 in
    let steps = c.args.plan.now.steps in
    let wanted = map read_var c.args.exprs.now in
    cost_routes place.compiled.now graph place.pattern.now c.requires.valid c.args.var c.requires.in_range steps c.requires.plan.0 c.args.elem c.args.exprs.now search.compiled.now other search.atoms.now same c.as_slice-on.result.now c.as_slice-off.result.now on_is off_is nothing_bound refl c.begin-admitted.result c.begin-admitted.ensures.value c.begin-admitted.ensures.graph c.requires.few_exprs c.args.steps.now c.begin-admitted.new.steps c.tuples_to_one.new.steps c.begin-admitted.ensures.at_most c.tuples_to_one.ensures.cost

pub returns-clause-walks : goal.returns-clause-walks
returns-clause-walks g c =
    let place = c.args.self.now in
    let graph = g.G.GraphRead.meaning place.graph.now in
    let search = c.search-search.result in
    let other = g.G.GraphRead.meaning search.graph.now in
    let same : IsSame search.compiled.now place.compiled.now other graph search.atoms.now place.pattern.now.atoms =
    record {
      schemas = ap (λ r. r.now) c.search-search.ensures.compiled;
      graphs = ap (λ r. g.G.GraphRead.meaning r.now) c.search-search.ensures.graph;
      lists = c.search-search.ensures.atoms;
    } in
    let on_is = c.as_slice-on.ensures ∙ c.requires.plan.1 in
    let off_is = c.as_slice-off.ensures ∙ c.requires.plan.2 in
    let steps = c.args.plan.now.steps in
    let wanted = map read_var c.args.exprs.now in
    cost_walks place.compiled.now graph place.pattern.now c.requires.valid c.args.var c.requires.in_range steps c.requires.plan.0 c.args.elem c.args.exprs.now search.compiled.now other search.atoms.now same c.as_slice-on.result.now c.as_slice-off.result.now on_is off_is nothing_bound refl c.begin-admitted.result c.begin-admitted.ensures.value c.begin-admitted.ensures.graph c.requires.few_exprs c.args.steps.now c.begin-admitted.new.steps c.tuples_to_one.new.steps c.begin-admitted.ensures.at_most c.tuples_to_one.ensures.cost

pub returns-clause-value : goal.returns-clause-value
returns-clause-value g c =
    let place = c.args.self.now in
    let graph = g.G.GraphRead.meaning place.graph.now in
    let search = c.search-search.result in
    let other = g.G.GraphRead.meaning search.graph.now in
    let same : IsSame search.compiled.now place.compiled.now other graph search.atoms.now place.pattern.now.atoms =
    record {
      schemas = ap (λ r. r.now) c.search-search.ensures.compiled;
      graphs = ap (λ r. g.G.GraphRead.meaning r.now) c.search-search.ensures.graph;
      lists = c.search-search.ensures.atoms;
    } in
    let on_is = c.as_slice-on.ensures ∙ c.requires.plan.1 in
    let off_is = c.as_slice-off.ensures ∙ c.requires.plan.2 in
    let steps = c.args.plan.now.steps in
    let wanted = map read_var c.args.exprs.now in
    ok_same c.tuples_to_one.result _ (option_map_or (λ x. gathered place.compiled.now graph place.pattern.now.atoms c.args.exprs.now steps (with_bound nothing_bound c.args.var x) []) (admitted place.compiled.now graph place.pattern.now c.args.var c.args.elem) [])
    (tuples_found place.compiled.now graph place.pattern.now c.requires.valid c.args.var c.requires.in_range steps c.requires.plan.0 c.args.elem c.args.exprs.now search.compiled.now other search.atoms.now same c.as_slice-on.result.now c.as_slice-off.result.now on_is off_is nothing_bound refl c.begin-admitted.result c.begin-admitted.ensures.value c.begin-admitted.ensures.graph c.requires.tree c.requires.reads _ [] refl refl)
    c.tuples_to_one.ensures.ok

pub returns-clause-few : goal.returns-clause-few
returns-clause-few g c =
    let place = c.args.self.now in
    let graph = g.G.GraphRead.meaning place.graph.now in
    let search = c.search-search.result in
    let other = g.G.GraphRead.meaning search.graph.now in
    let same : IsSame search.compiled.now place.compiled.now other graph search.atoms.now place.pattern.now.atoms =
    record {
      schemas = ap (λ r. r.now) c.search-search.ensures.compiled;
      graphs = ap (λ r. g.G.GraphRead.meaning r.now) c.search-search.ensures.graph;
      lists = c.search-search.ensures.atoms;
    } in
    let on_is = c.as_slice-on.ensures ∙ c.requires.plan.1 in
    let off_is = c.as_slice-off.ensures ∙ c.requires.plan.2 in
    let steps = c.args.plan.now.steps in
    let wanted = map read_var c.args.exprs.now in
    λ w most few sparse.
    ok_more c.tuples_to_one.result (λ tuples. tuples ≡ (option_map_or (λ x. gathered place.compiled.now graph place.pattern.now.atoms c.args.exprs.now steps (with_bound nothing_bound c.args.var x) []) (admitted place.compiled.now graph place.pattern.now c.args.var c.args.elem) [])) (λ tuples. length tuples ≤ (most + 2) ^ w)
    (λ tuples is. tuples_few place.compiled.now graph place.pattern.now c.requires.valid c.args.var c.requires.in_range steps c.requires.plan.0 c.args.elem c.args.exprs.now search.compiled.now other search.atoms.now same c.as_slice-on.result.now c.as_slice-off.result.now on_is off_is nothing_bound refl c.begin-admitted.result c.begin-admitted.ensures.value c.begin-admitted.ensures.graph tuples is w most few sparse)
    (ok_same c.tuples_to_one.result _ (option_map_or (λ x. gathered place.compiled.now graph place.pattern.now.atoms c.args.exprs.now steps (with_bound nothing_bound c.args.var x) []) (admitted place.compiled.now graph place.pattern.now c.args.var c.args.elem) [])
    (tuples_found place.compiled.now graph place.pattern.now c.requires.valid c.args.var c.requires.in_range steps c.requires.plan.0 c.args.elem c.args.exprs.now search.compiled.now other search.atoms.now same c.as_slice-on.result.now c.as_slice-off.result.now on_is off_is nothing_bound refl c.begin-admitted.result c.begin-admitted.ensures.value c.begin-admitted.ensures.graph c.requires.tree c.requires.reads _ [] refl refl)
    c.tuples_to_one.ensures.ok)

pub returns-clause-right : goal.returns-clause-right
returns-clause-right g c =
    let place = c.args.self.now in
    let graph = g.G.GraphRead.meaning place.graph.now in
    let search = c.search-search.result in
    let other = g.G.GraphRead.meaning search.graph.now in
    let same : IsSame search.compiled.now place.compiled.now other graph search.atoms.now place.pattern.now.atoms =
    record {
      schemas = ap (λ r. r.now) c.search-search.ensures.compiled;
      graphs = ap (λ r. g.G.GraphRead.meaning r.now) c.search-search.ensures.graph;
      lists = c.search-search.ensures.atoms;
    } in
    let on_is = c.as_slice-on.ensures ∙ c.requires.plan.1 in
    let off_is = c.as_slice-off.ensures ∙ c.requires.plan.2 in
    let steps = c.args.plan.now.steps in
    let wanted = map read_var c.args.exprs.now in
    noted_back search.compiled.now place.compiled.now other graph search.atoms.now place.pattern.now.atoms same c.as_slice-off.result.now c.args.plan.now.off c.as_slice-off.ensures c.tuples_to_one.new.notes c.tuples_to_one.ensures.right

pub returns-clause-once : goal.returns-clause-once
returns-clause-once g c =
    let place = c.args.self.now in
    let graph = g.G.GraphRead.meaning place.graph.now in
    let search = c.search-search.result in
    let other = g.G.GraphRead.meaning search.graph.now in
    let same : IsSame search.compiled.now place.compiled.now other graph search.atoms.now place.pattern.now.atoms =
    record {
      schemas = ap (λ r. r.now) c.search-search.ensures.compiled;
      graphs = ap (λ r. g.G.GraphRead.meaning r.now) c.search-search.ensures.graph;
      lists = c.search-search.ensures.atoms;
    } in
    let on_is = c.as_slice-on.ensures ∙ c.requires.plan.1 in
    let off_is = c.as_slice-off.ensures ∙ c.requires.plan.2 in
    let steps = c.args.plan.now.steps in
    let wanted = map read_var c.args.exprs.now in
    λ pairs has closed.
    let on = c.as_slice-on.result.now in
    let off = c.as_slice-off.result.now in
    let few : length off ≤ 19 = subst (λ steps. length steps ≤ 19) (sym off_is) (off_few place.pattern.now c.args.var steps wanted c.requires.valid c.requires.plan.0) in
    let parts = closed_parts place.compiled.now graph place.pattern.now.atoms pairs wanted steps closed in
    let leads = subst (λ on. leads_to_one c.args.var on c.args.exprs.now ≡ true) (sym c.as_slice-on.ensures) c.requires.one in
    on_more c.tuples_to_one.result
    (c.tuples_to_one.new.steps + 440 * unasked other c.tuples_to_one.new.notes pairs ≤ c.begin-admitted.new.steps + 440 * unasked other c.args.notes.now pairs
    + (456 * sum_by (λ (stand : Stand). elem_degree other stand.elem + 2) pairs + hops_most other (length off) on pairs))
    (c.tuples_to_one.new.steps ≤ c.args.steps.now + 1400 * sum_by (λ (stand : Stand). elem_degree graph stand.elem + 2) pairs)
    (λ cost. subst (λ h. c.tuples_to_one.new.steps ≤ c.args.steps.now + 1400 * sum_by (λ (stand : Stand). elem_degree h stand.elem + 2) pairs) same.graphs
    (once_total other place.pattern.now c.args.var steps c.args.exprs.now wanted c.requires.valid c.requires.plan.0 on off on_is few leads pairs c.args.elem has
    c.args.notes.now c.tuples_to_one.new.notes c.args.steps.now c.begin-admitted.new.steps c.tuples_to_one.new.steps c.begin-admitted.ensures.at_most cost))
    (c.tuples_to_one.ensures.once pairs few c.requires.few_exprs
    (λ x at. subst (λ h. IsAmong h pairs c.args.var x) (sym same.graphs)
    (x_among place.compiled.now graph place.pattern.now c.requires.valid c.args.var c.requires.in_range steps c.requires.plan.0 c.args.elem x (sym c.begin-admitted.ensures.value ∙ at) pairs has))
    (closed_as search.compiled.now place.compiled.now other graph search.atoms.now place.pattern.now.atoms same pairs on (on_way wanted steps) on_is parts.0)
    (closed_as search.compiled.now place.compiled.now other graph search.atoms.now place.pattern.now.atoms same pairs off (off_way wanted steps) off_is parts.1))
