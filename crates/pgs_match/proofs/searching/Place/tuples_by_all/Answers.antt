use Rattle.std.proofs.Common.{[], length, ap, ◌∙◌, arith}
use Rattle.std.specs.Option.{option_map_or}
use Rattle.pgs_match.specs.Bounds.{with_bound, nothing_bound}
use Rattle.pgs_match.specs.Search.{gathered, most_steps}
use Rattle.pgs_match.proofs.Searched.{cost_with, cost_without, few_with}
use Rattle.pgs_match.proofs.searching.Place.tuples_by_all.Goals as goal

pub returns-in_err-gather-in-Some-clause-cost : goal.returns-in_err-gather-in-Some-clause-cost
returns-in_err-gather-in-Some-clause-cost g c =
    let place = c.args.self.now in
    let graph = g.G.GraphRead.meaning place.graph.now in
    let search = c.search-search.result in
    let other = g.G.GraphRead.meaning search.graph.now in
    cost_with place.compiled.now graph place.pattern.now c.requires.valid c.args.var c.requires.in_range c.args.plan.now c.requires.plan c.args.elem c.in-Some.bound c.in-Some.ensures.value
    search.compiled.now other search.atoms.now
    (record {
      schemas = ap (λ r. r.now) c.search-search.ensures.compiled;
      graphs = ap (λ r. g.G.GraphRead.meaning r.now) c.search-search.ensures.graph;
      lists = c.search-search.ensures.atoms;
    })
    c.in-Some.ensures.graph (length c.args.exprs.now) c.args.steps.now c.begin.new.steps c.gather.new.steps c.requires.few_exprs c.begin.ensures.at_most
    (let same = ap (most_steps search.compiled.now other search.atoms.now (length c.args.exprs.now) c.args.plan.now) c.alone.ensures in omega (arith, c.gather.ensures.cost, same))

pub returns-in_ok-gather-in-Some-clause-cost : goal.returns-in_ok-gather-in-Some-clause-cost
returns-in_ok-gather-in-Some-clause-cost g c =
    let place = c.args.self.now in
    let graph = g.G.GraphRead.meaning place.graph.now in
    let search = c.search-search.result in
    let other = g.G.GraphRead.meaning search.graph.now in
    cost_with place.compiled.now graph place.pattern.now c.requires.valid c.args.var c.requires.in_range c.args.plan.now c.requires.plan c.args.elem c.in-Some.bound c.in-Some.ensures.value
    search.compiled.now other search.atoms.now
    (record {
      schemas = ap (λ r. r.now) c.search-search.ensures.compiled;
      graphs = ap (λ r. g.G.GraphRead.meaning r.now) c.search-search.ensures.graph;
      lists = c.search-search.ensures.atoms;
    })
    c.in-Some.ensures.graph (length c.args.exprs.now) c.args.steps.now c.begin.new.steps c.gather.new.steps c.requires.few_exprs c.begin.ensures.at_most
    (let same = ap (most_steps search.compiled.now other search.atoms.now (length c.args.exprs.now) c.args.plan.now) c.alone.ensures in omega (arith, c.gather.ensures.cost, same))

pub returns-in_ok-gather-in-Some-clause-few : goal.returns-in_ok-gather-in-Some-clause-few
returns-in_ok-gather-in-Some-clause-few g c =
    let place = c.args.self.now in
    let graph = g.G.GraphRead.meaning place.graph.now in
    let search = c.search-search.result in
    let other = g.G.GraphRead.meaning search.graph.now in
    few_with place.compiled.now graph place.pattern.now c.requires.valid c.args.var c.requires.in_range c.args.plan.now c.requires.plan c.args.elem c.in-Some.bound c.in-Some.ensures.value
    search.compiled.now other search.atoms.now
    (record {
      schemas = ap (λ r. r.now) c.search-search.ensures.compiled;
      graphs = ap (λ r. g.G.GraphRead.meaning r.now) c.search-search.ensures.graph;
      lists = c.search-search.ensures.atoms;
    })
    c.in-Some.ensures.graph c.args.exprs.now c.gather.new.tuples
    (c.in_ok-gather-in-Some.ensures.ok ∙ ap (λ tuples. gathered search.compiled.now other search.atoms.now c.args.exprs.now c.args.plan.now c.alone.result tuples) c.new-tuples.ensures
    ∙ ap (λ b. gathered search.compiled.now other search.atoms.now c.args.exprs.now c.args.plan.now b []) c.alone.ensures)

pub returns-in-None-clause-cost : goal.returns-in-None-clause-cost
returns-in-None-clause-cost g c = λ w most few sparse. cost_without c.args.steps.now c.begin.new.steps c.begin.ensures.at_most w most

pub returns-in_ok-gather-in-Some-clause-value : goal.returns-in_ok-gather-in-Some-clause-value
returns-in_ok-gather-in-Some-clause-value g c =
    let place = c.args.self.now in
    let graph = g.G.GraphRead.meaning place.graph.now in
    let search = c.search-search.result in
    let other = g.G.GraphRead.meaning search.graph.now in
    let exprs = c.args.exprs.now in
    let plan = c.args.plan.now in
    let start = with_bound nothing_bound c.args.var c.in-Some.bound in
    c.in_ok-gather-in-Some.ensures.ok ∙ ap (λ tuples. gathered search.compiled.now other search.atoms.now exprs plan c.alone.result tuples) c.new-tuples.ensures
    ∙ ap (λ b. gathered search.compiled.now other search.atoms.now exprs plan b []) c.alone.ensures
    ∙ ap (λ r. gathered r.now other search.atoms.now exprs plan start []) c.search-search.ensures.compiled
    ∙ ap (λ r. gathered place.compiled.now (g.G.GraphRead.meaning r.now) search.atoms.now exprs plan start []) c.search-search.ensures.graph
    ∙ ap (λ atoms. gathered place.compiled.now graph atoms exprs plan start []) c.search-search.ensures.atoms
    ∙ ap (λ o. option_map_or (λ x. gathered place.compiled.now graph place.pattern.now.atoms exprs plan (with_bound nothing_bound c.args.var x) []) o []) c.in-Some.ensures.value
