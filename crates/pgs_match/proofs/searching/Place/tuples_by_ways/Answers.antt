use Rattle.std.proofs.Common.{◌≡◌, true, ◌&&◌, ◌==◌, length, sym, ap, ◌∙◌, subst}
use Rattle.pgs_match.specs.Frontier.{leads_to_one}
use Rattle.pgs_match.specs.Learned.{is_short}
use Rattle.pgs_match.proofs.WayFound.{tuples_found, tuples_few, cost_sparse, cost_routes, cost_walks, cost_short}
use Rattle.pgs_match.proofs.searching.Place.tuples_by_ways.Goals as goal

pub returns-in_err-gather_with-clause-cost : goal.returns-in_err-gather_with-clause-cost
returns-in_err-gather_with-clause-cost g c =
    let place = c.args.self.now in
    let graph = g.G.GraphRead.meaning place.graph.now in
    let search = c.search-search.result in
    let other = g.G.GraphRead.meaning search.graph.now in
    cost_sparse place.compiled.now graph place.pattern.now c.requires.valid c.args.var c.requires.in_range c.args.plan.now.steps c.requires.plan.0 c.args.elem c.args.exprs.now search.compiled.now other search.atoms.now
    (record {
      schemas = ap (λ r. r.now) c.search-search.ensures.compiled;
      graphs = ap (λ r. g.G.GraphRead.meaning r.now) c.search-search.ensures.graph;
      lists = c.search-search.ensures.atoms;
    })
    c.as_slice-on.result.now c.as_slice-off.result.now (c.as_slice-on.ensures ∙ c.requires.plan.1) (c.as_slice-off.ensures ∙ c.requires.plan.2) c.none-nothing.result c.none-nothing.ensures
    c.begin-admitted.result c.begin-admitted.ensures.value c.begin-admitted.ensures.graph c.requires.few_exprs c.args.steps.now c.begin-admitted.new.steps c.gather_with.new.steps c.begin-admitted.ensures.at_most c.gather_with.ensures.cost

pub returns-in_err-gather_with-clause-routes : goal.returns-in_err-gather_with-clause-routes
returns-in_err-gather_with-clause-routes g c =
    let place = c.args.self.now in
    let graph = g.G.GraphRead.meaning place.graph.now in
    let search = c.search-search.result in
    let other = g.G.GraphRead.meaning search.graph.now in
    cost_routes place.compiled.now graph place.pattern.now c.requires.valid c.args.var c.requires.in_range c.args.plan.now.steps c.requires.plan.0 c.args.elem c.args.exprs.now search.compiled.now other search.atoms.now
    (record {
      schemas = ap (λ r. r.now) c.search-search.ensures.compiled;
      graphs = ap (λ r. g.G.GraphRead.meaning r.now) c.search-search.ensures.graph;
      lists = c.search-search.ensures.atoms;
    })
    c.as_slice-on.result.now c.as_slice-off.result.now (c.as_slice-on.ensures ∙ c.requires.plan.1) (c.as_slice-off.ensures ∙ c.requires.plan.2) c.none-nothing.result c.none-nothing.ensures
    c.begin-admitted.result c.begin-admitted.ensures.value c.begin-admitted.ensures.graph c.requires.few_exprs c.args.steps.now c.begin-admitted.new.steps c.gather_with.new.steps c.begin-admitted.ensures.at_most c.gather_with.ensures.cost

pub returns-in_err-gather_with-clause-walks : goal.returns-in_err-gather_with-clause-walks
returns-in_err-gather_with-clause-walks g c =
    let place = c.args.self.now in
    let graph = g.G.GraphRead.meaning place.graph.now in
    let search = c.search-search.result in
    let other = g.G.GraphRead.meaning search.graph.now in
    cost_walks place.compiled.now graph place.pattern.now c.requires.valid c.args.var c.requires.in_range c.args.plan.now.steps c.requires.plan.0 c.args.elem c.args.exprs.now search.compiled.now other search.atoms.now
    (record {
      schemas = ap (λ r. r.now) c.search-search.ensures.compiled;
      graphs = ap (λ r. g.G.GraphRead.meaning r.now) c.search-search.ensures.graph;
      lists = c.search-search.ensures.atoms;
    })
    c.as_slice-on.result.now c.as_slice-off.result.now (c.as_slice-on.ensures ∙ c.requires.plan.1) (c.as_slice-off.ensures ∙ c.requires.plan.2) c.none-nothing.result c.none-nothing.ensures
    c.begin-admitted.result c.begin-admitted.ensures.value c.begin-admitted.ensures.graph c.requires.few_exprs c.args.steps.now c.begin-admitted.new.steps c.gather_with.new.steps c.begin-admitted.ensures.at_most c.gather_with.ensures.cost

pub returns-clause-cost : goal.returns-clause-cost
returns-clause-cost g c =
    let place = c.args.self.now in
    let graph = g.G.GraphRead.meaning place.graph.now in
    let search = c.search-search.result in
    let other = g.G.GraphRead.meaning search.graph.now in
    cost_sparse place.compiled.now graph place.pattern.now c.requires.valid c.args.var c.requires.in_range c.args.plan.now.steps c.requires.plan.0 c.args.elem c.args.exprs.now search.compiled.now other search.atoms.now
    (record {
      schemas = ap (λ r. r.now) c.search-search.ensures.compiled;
      graphs = ap (λ r. g.G.GraphRead.meaning r.now) c.search-search.ensures.graph;
      lists = c.search-search.ensures.atoms;
    })
    c.as_slice-on.result.now c.as_slice-off.result.now (c.as_slice-on.ensures ∙ c.requires.plan.1) (c.as_slice-off.ensures ∙ c.requires.plan.2) c.none-nothing.result c.none-nothing.ensures
    c.begin-admitted.result c.begin-admitted.ensures.value c.begin-admitted.ensures.graph c.requires.few_exprs c.args.steps.now c.begin-admitted.new.steps c.gather_with.new.steps c.begin-admitted.ensures.at_most c.gather_with.ensures.cost

pub returns-clause-routes : goal.returns-clause-routes
returns-clause-routes g c =
    let place = c.args.self.now in
    let graph = g.G.GraphRead.meaning place.graph.now in
    let search = c.search-search.result in
    let other = g.G.GraphRead.meaning search.graph.now in
    cost_routes place.compiled.now graph place.pattern.now c.requires.valid c.args.var c.requires.in_range c.args.plan.now.steps c.requires.plan.0 c.args.elem c.args.exprs.now search.compiled.now other search.atoms.now
    (record {
      schemas = ap (λ r. r.now) c.search-search.ensures.compiled;
      graphs = ap (λ r. g.G.GraphRead.meaning r.now) c.search-search.ensures.graph;
      lists = c.search-search.ensures.atoms;
    })
    c.as_slice-on.result.now c.as_slice-off.result.now (c.as_slice-on.ensures ∙ c.requires.plan.1) (c.as_slice-off.ensures ∙ c.requires.plan.2) c.none-nothing.result c.none-nothing.ensures
    c.begin-admitted.result c.begin-admitted.ensures.value c.begin-admitted.ensures.graph c.requires.few_exprs c.args.steps.now c.begin-admitted.new.steps c.gather_with.new.steps c.begin-admitted.ensures.at_most c.gather_with.ensures.cost

pub returns-clause-walks : goal.returns-clause-walks
returns-clause-walks g c =
    let place = c.args.self.now in
    let graph = g.G.GraphRead.meaning place.graph.now in
    let search = c.search-search.result in
    let other = g.G.GraphRead.meaning search.graph.now in
    cost_walks place.compiled.now graph place.pattern.now c.requires.valid c.args.var c.requires.in_range c.args.plan.now.steps c.requires.plan.0 c.args.elem c.args.exprs.now search.compiled.now other search.atoms.now
    (record {
      schemas = ap (λ r. r.now) c.search-search.ensures.compiled;
      graphs = ap (λ r. g.G.GraphRead.meaning r.now) c.search-search.ensures.graph;
      lists = c.search-search.ensures.atoms;
    })
    c.as_slice-on.result.now c.as_slice-off.result.now (c.as_slice-on.ensures ∙ c.requires.plan.1) (c.as_slice-off.ensures ∙ c.requires.plan.2) c.none-nothing.result c.none-nothing.ensures
    c.begin-admitted.result c.begin-admitted.ensures.value c.begin-admitted.ensures.graph c.requires.few_exprs c.args.steps.now c.begin-admitted.new.steps c.gather_with.new.steps c.begin-admitted.ensures.at_most c.gather_with.ensures.cost

pub returns-clause-value : goal.returns-clause-value
returns-clause-value g c =
    let place = c.args.self.now in
    let graph = g.G.GraphRead.meaning place.graph.now in
    let search = c.search-search.result in
    let other = g.G.GraphRead.meaning search.graph.now in
    tuples_found place.compiled.now graph place.pattern.now c.requires.valid c.args.var c.requires.in_range c.args.plan.now.steps c.requires.plan.0 c.args.elem c.args.exprs.now search.compiled.now other search.atoms.now
    (record {
      schemas = ap (λ r. r.now) c.search-search.ensures.compiled;
      graphs = ap (λ r. g.G.GraphRead.meaning r.now) c.search-search.ensures.graph;
      lists = c.search-search.ensures.atoms;
    })
    c.as_slice-on.result.now c.as_slice-off.result.now (c.as_slice-on.ensures ∙ c.requires.plan.1) (c.as_slice-off.ensures ∙ c.requires.plan.2) c.none-nothing.result c.none-nothing.ensures
    c.begin-admitted.result c.begin-admitted.ensures.value c.begin-admitted.ensures.graph c.requires.tree c.requires.reads c.gather_with.new.tuples c.new-tuples.result c.new-tuples.ensures c.in_ok-gather_with.ensures.ok

pub returns-clause-few : goal.returns-clause-few
returns-clause-few g c =
    let place = c.args.self.now in
    let graph = g.G.GraphRead.meaning place.graph.now in
    let search = c.search-search.result in
    let other = g.G.GraphRead.meaning search.graph.now in
    tuples_few place.compiled.now graph place.pattern.now c.requires.valid c.args.var c.requires.in_range c.args.plan.now.steps c.requires.plan.0 c.args.elem c.args.exprs.now search.compiled.now other search.atoms.now
    (record {
      schemas = ap (λ r. r.now) c.search-search.ensures.compiled;
      graphs = ap (λ r. g.G.GraphRead.meaning r.now) c.search-search.ensures.graph;
      lists = c.search-search.ensures.atoms;
    })
    c.as_slice-on.result.now c.as_slice-off.result.now (c.as_slice-on.ensures ∙ c.requires.plan.1) (c.as_slice-off.ensures ∙ c.requires.plan.2) c.none-nothing.result c.none-nothing.ensures
    c.begin-admitted.result c.begin-admitted.ensures.value c.begin-admitted.ensures.graph c.gather_with.new.tuples
    (tuples_found place.compiled.now graph place.pattern.now c.requires.valid c.args.var c.requires.in_range c.args.plan.now.steps c.requires.plan.0 c.args.elem c.args.exprs.now search.compiled.now other search.atoms.now
    (record {
      schemas = ap (λ r. r.now) c.search-search.ensures.compiled;
      graphs = ap (λ r. g.G.GraphRead.meaning r.now) c.search-search.ensures.graph;
      lists = c.search-search.ensures.atoms;
    })
    c.as_slice-on.result.now c.as_slice-off.result.now (c.as_slice-on.ensures ∙ c.requires.plan.1) (c.as_slice-off.ensures ∙ c.requires.plan.2) c.none-nothing.result c.none-nothing.ensures
    c.begin-admitted.result c.begin-admitted.ensures.value c.begin-admitted.ensures.graph c.requires.tree c.requires.reads c.gather_with.new.tuples c.new-tuples.result c.new-tuples.ensures c.in_ok-gather_with.ensures.ok)

pub returns-in_err-gather_with-clause-short : goal.returns-in_err-gather_with-clause-short
returns-in_err-gather_with-clause-short g c = λ short leads.
    let place = c.args.self.now in
    let graph = g.G.GraphRead.meaning place.graph.now in
    let search = c.search-search.result in
    let other = g.G.GraphRead.meaning search.graph.now in
    cost_short place.compiled.now graph place.pattern.now c.requires.valid c.args.var c.requires.in_range c.args.plan.now.steps c.requires.plan.0 c.args.elem c.args.exprs.now search.compiled.now other search.atoms.now
    (record {
      schemas = ap (λ r. r.now) c.search-search.ensures.compiled;
      graphs = ap (λ r. g.G.GraphRead.meaning r.now) c.search-search.ensures.graph;
      lists = c.search-search.ensures.atoms;
    })
    c.as_slice-on.result.now c.as_slice-off.result.now (c.as_slice-on.ensures ∙ c.requires.plan.1) (c.as_slice-off.ensures ∙ c.requires.plan.2) c.none-nothing.result c.none-nothing.ensures
    c.begin-admitted.result c.begin-admitted.ensures.value c.begin-admitted.ensures.graph c.requires.few_exprs c.args.steps.now c.begin-admitted.new.steps c.gather_with.new.steps c.begin-admitted.ensures.at_most c.gather_with.ensures.cost
    (subst (λ off. (is_short c.as_slice-on.result.now && length off == 0) ≡ true) (sym c.as_slice-off.ensures) (subst (λ on. (is_short on && length c.args.plan.now.off == 0) ≡ true) (sym c.as_slice-on.ensures) short))
    (subst (λ on. leads_to_one c.args.var on c.args.exprs.now ≡ true) (sym c.as_slice-on.ensures) leads)

pub returns-clause-short : goal.returns-clause-short
returns-clause-short g c = λ short leads.
    let place = c.args.self.now in
    let graph = g.G.GraphRead.meaning place.graph.now in
    let search = c.search-search.result in
    let other = g.G.GraphRead.meaning search.graph.now in
    cost_short place.compiled.now graph place.pattern.now c.requires.valid c.args.var c.requires.in_range c.args.plan.now.steps c.requires.plan.0 c.args.elem c.args.exprs.now search.compiled.now other search.atoms.now
    (record {
      schemas = ap (λ r. r.now) c.search-search.ensures.compiled;
      graphs = ap (λ r. g.G.GraphRead.meaning r.now) c.search-search.ensures.graph;
      lists = c.search-search.ensures.atoms;
    })
    c.as_slice-on.result.now c.as_slice-off.result.now (c.as_slice-on.ensures ∙ c.requires.plan.1) (c.as_slice-off.ensures ∙ c.requires.plan.2) c.none-nothing.result c.none-nothing.ensures
    c.begin-admitted.result c.begin-admitted.ensures.value c.begin-admitted.ensures.graph c.requires.few_exprs c.args.steps.now c.begin-admitted.new.steps c.gather_with.new.steps c.begin-admitted.ensures.at_most c.gather_with.ensures.cost
    (subst (λ off. (is_short c.as_slice-on.result.now && length off == 0) ≡ true) (sym c.as_slice-off.ensures) (subst (λ on. (is_short on && length c.args.plan.now.off == 0) ≡ true) (sym c.as_slice-on.ensures) short))
    (subst (λ on. leads_to_one c.args.var on c.args.exprs.now ≡ true) (sym c.as_slice-on.ensures) leads)
