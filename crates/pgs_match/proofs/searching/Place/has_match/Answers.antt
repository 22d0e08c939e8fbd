use Rattle.std.proofs.Common.{◌+◌, ◌*◌, ◌≤◌, ap, sym, subst, ◌∙◌, arith}
use Rattle.pgs_match.specs.Search.{can_complete, most_steps}
use Rattle.pgs_match.specs.Spread.{elem_degree}
use Rattle.pgs_match.proofs.Asking.{answer_with, few_asked, walks_asked, walks_without}
use Rattle.pgs_match.proofs.Learning.{short_paid}
use Rattle.pgs_match.proofs.Searched.{found_with, found_without, cost_with, cost_without}
use Rattle.pgs_match.proofs.Started.{admitted_good}
use Rattle.pgs_match.proofs.searching.Place.has_match.Goals as goal

pub returns-then-is_tree-clause-found : goal.returns-then-is_tree-clause-found
returns-then-is_tree-clause-found g c =
    let place = c.args.self.now in
    let graph = g.G.GraphRead.meaning place.graph.now in
    let search = c.search-search.result in
    let other = g.G.GraphRead.meaning search.graph.now in
    answer_with place.compiled.now graph c.in-Some.ensures.graph place.pattern.now c.requires.valid c.args.var c.requires.in_range c.args.plan.now c.requires.plan c.args.elem c.in-Some.bound (sym c.in-Some.ensures.value)
    search.compiled.now other search.atoms.now
    (record {
      schemas = ap (λ r. r.now) c.search-search.ensures.compiled;
      graphs = ap (λ r. g.G.GraphRead.meaning r.now) c.search-search.ensures.graph;
      lists = c.search-search.ensures.atoms;
    })
    (sym c.is_tree.ensures ∙ c.if-is_tree.true) c.can_be_given.result c.can_be_given.ensures.found

pub returns-then-is_tree-clause-cost : goal.returns-then-is_tree-clause-cost
returns-then-is_tree-clause-cost g c =
    let place = c.args.self.now in
    let graph = g.G.GraphRead.meaning place.graph.now in
    let search = c.search-search.result in
    let other = g.G.GraphRead.meaning search.graph.now in
    few_asked place.compiled.now graph c.in-Some.ensures.graph place.pattern.now c.requires.valid c.args.var c.requires.in_range c.args.plan.now c.requires.plan c.args.elem c.in-Some.bound (sym c.in-Some.ensures.value)
    search.compiled.now other search.atoms.now
    (record {
      schemas = ap (λ r. r.now) c.search-search.ensures.compiled;
      graphs = ap (λ r. g.G.GraphRead.meaning r.now) c.search-search.ensures.graph;
      lists = c.search-search.ensures.atoms;
    })
    c.args.steps.now c.begin.new.steps c.can_be_given.new.steps c.begin.ensures.at_most c.can_be_given.ensures.cost

pub returns-then-is_tree-clause-adds : goal.returns-then-is_tree-clause-adds
returns-then-is_tree-clause-adds g c =
    let place = c.args.self.now in
    let graph = g.G.GraphRead.meaning place.graph.now in
    let search = c.search-search.result in
    let other = g.G.GraphRead.meaning search.graph.now in
    λ tree.
    walks_asked place.compiled.now graph c.in-Some.ensures.graph place.pattern.now c.requires.valid c.args.var c.requires.in_range c.args.plan.now c.requires.plan c.args.elem c.in-Some.bound (sym c.in-Some.ensures.value)
    search.compiled.now other search.atoms.now
    (record {
      schemas = ap (λ r. r.now) c.search-search.ensures.compiled;
      graphs = ap (λ r. g.G.GraphRead.meaning r.now) c.search-search.ensures.graph;
      lists = c.search-search.ensures.atoms;
    })
    c.args.steps.now c.begin.new.steps c.can_be_given.new.steps c.begin.ensures.at_most c.can_be_given.ensures.cost

pub returns-in-Some-clause-found : goal.returns-in-Some-clause-found
returns-in-Some-clause-found g c =
    let place = c.args.self.now in
    let graph = g.G.GraphRead.meaning place.graph.now in
    let search = c.search-search.result in
    let other = g.G.GraphRead.meaning search.graph.now in
    found_with place.compiled.now graph place.pattern.now c.requires.valid c.args.var c.requires.in_range c.args.plan.now c.requires.plan c.args.elem c.in-Some.bound c.in-Some.ensures.value
    search.compiled.now other search.atoms.now
    (record {
      schemas = ap (λ r. r.now) c.search-search.ensures.compiled;
      graphs = ap (λ r. g.G.GraphRead.meaning r.now) c.search-search.ensures.graph;
      lists = c.search-search.ensures.atoms;
    })
    c.can_complete.result (c.can_complete.ensures.found ∙ ap (can_complete search.compiled.now other search.atoms.now c.args.plan.now) c.alone.ensures)

pub returns-in-Some-clause-cost : goal.returns-in-Some-clause-cost
returns-in-Some-clause-cost g c =
    let place = c.args.self.now in
    let graph = g.G.GraphRead.meaning place.graph.now in
    let search = c.search-search.result in
    let other = g.G.GraphRead.meaning search.graph.now in
    cost_with place.compiled.now graph place.pattern.now c.requires.valid c.args.var c.requires.in_range c.args.plan.now c.requires.plan c.args.elem c.in-Some.bound c.in-Some.ensures.value
    search.compiled.now other search.atoms.now
    (record {
      schemas = ap (λ r. r.now) c.search-search.ensures.compiled;
      graphs = ap (λ r. g.G.GraphRead.meaning r.now) c.search-search.ensures.graph;
      lists = c.search-search.ensures.atoms;
    })
    c.in-Some.ensures.graph 0 c.args.steps.now c.begin.new.steps c.can_complete.new.steps (omega arith) c.begin.ensures.at_most
    (let same = ap (most_steps search.compiled.now other search.atoms.now 0 c.args.plan.now) c.alone.ensures in omega (arith, c.can_complete.ensures.cost, same))

pub returns-clause-found : goal.returns-clause-found
returns-clause-found g c =
    let place = c.args.self.now in
    found_without place.compiled.now (g.G.GraphRead.meaning place.graph.now) place.pattern.now c.requires.valid c.args.var c.requires.in_range c.args.plan.now c.requires.plan c.args.elem c.in-None.ensures.value

pub returns-clause-cost : goal.returns-clause-cost
returns-clause-cost g c = λ w most few sparse. cost_without c.args.steps.now c.begin.new.steps c.begin.ensures.at_most w most

pub returns-clause-adds : goal.returns-clause-adds
returns-clause-adds g c =
    let place = c.args.self.now in
    λ tree. walks_without place.compiled.now (g.G.GraphRead.meaning place.graph.now) place.pattern.now c.args.plan.now c.args.var c.args.elem c.in-None.ensures.value c.args.steps.now c.begin.new.steps c.begin.ensures.at_most

pub returns-then-is_tree-clause-short : goal.returns-then-is_tree-clause-short
returns-then-is_tree-clause-short g c =
    let place = c.args.self.now in
    let graph = g.G.GraphRead.meaning place.graph.now in
    let search = c.search-search.result in
    let other = g.G.GraphRead.meaning search.graph.now in
    λ tree short.
    subst (λ h. c.can_be_given.new.steps ≤ c.args.steps.now + 440 * (elem_degree h c.args.elem + 2)) (ap (λ r. g.G.GraphRead.meaning r.now) c.search-search.ensures.graph)
    (short_paid search.compiled.now other search.atoms.now c.args.var c.args.elem c.in-Some.bound
    (admitted_good place.compiled.now graph place.pattern.now c.args.var c.args.elem c.in-Some.bound (sym c.in-Some.ensures.value)).1
    c.args.plan.now short c.args.steps.now c.begin.new.steps c.can_be_given.new.steps c.begin.ensures.at_most c.can_be_given.ensures.cost)

pub returns-clause-short : goal.returns-clause-short
returns-clause-short g c = λ tree short. omega (arith, c.begin.ensures.at_most)
