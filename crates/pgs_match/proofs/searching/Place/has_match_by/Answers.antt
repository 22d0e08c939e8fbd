use Rattle.std.proofs.Common.{◌≡◌, true, refl, sym, subst}
use Rattle.pgs_match.specs.Answers.{IsClosed}
use Rattle.pgs_match.specs.Branches.{is_tree}
use Rattle.pgs_match.proofs.Asking.{answer_with, few_asked}
use Rattle.pgs_match.proofs.Ending.{plan_ends}
use Rattle.pgs_match.proofs.Learning.{x_paid}
use Rattle.pgs_match.proofs.Searched.{found_without, cost_without}
use Rattle.pgs_match.proofs.searching.Place.has_match_by.Goals as goal

pub given-requires-clause-place : goal.given-requires-clause-place
given-requires-clause-place g c =
    let place = c.args.self.now in
    plan_ends place.compiled.now (g.G.GraphRead.meaning place.graph.now) place.pattern.now c.requires.valid 0 c.args.plan.now c.requires.plan

pub returns-in-Some-clause-found : goal.returns-in-Some-clause-found
returns-in-Some-clause-found g c =
    let place = c.args.self.now in
    let graph = g.G.GraphRead.meaning place.graph.now in
    let demands = c.as_slice.result.now in
    answer_with place.compiled.now graph c.in-Some.ensures.graph place.pattern.now c.requires.valid 0 c.requires.in_range c.args.plan.now c.requires.plan c.args.elem c.in-Some.bound (sym c.in-Some.ensures.value)
    place.compiled.now graph demands (record { schemas = refl; graphs = refl; lists = c.as_slice.ensures })
    (subst (λ atoms. is_tree atoms c.args.plan.now ≡ true) (sym c.as_slice.ensures) c.requires.tree) c.given.result c.given.ensures.found

pub returns-in-Some-clause-cost : goal.returns-in-Some-clause-cost
returns-in-Some-clause-cost g c =
    let place = c.args.self.now in
    let graph = g.G.GraphRead.meaning place.graph.now in
    few_asked place.compiled.now graph c.in-Some.ensures.graph place.pattern.now c.requires.valid 0 c.requires.in_range c.args.plan.now c.requires.plan c.args.elem c.in-Some.bound (sym c.in-Some.ensures.value)
    place.compiled.now graph c.as_slice.result.now (record { schemas = refl; graphs = refl; lists = c.as_slice.ensures })
    c.args.steps.now c.begin.new.steps c.given.new.steps c.begin.ensures.at_most c.given.ensures.cost

pub returns-in-Some-clause-once : goal.returns-in-Some-clause-once
returns-in-Some-clause-once g c = λ pairs has closed.
    let place = c.args.self.now in
    let graph = g.G.GraphRead.meaning place.graph.now in
    x_paid place.compiled.now graph place.pattern.now c.requires.valid 0 c.requires.in_range c.args.plan.now c.requires.plan c.args.elem c.in-Some.bound (sym c.in-Some.ensures.value)
    pairs c.args.answers.now c.given.new.answers c.args.steps.now c.begin.new.steps c.given.new.steps c.begin.ensures.at_most has
    (λ price among. c.given.ensures.once pairs 440 price (subst (λ atoms. IsClosed place.compiled.now graph atoms pairs c.args.plan.now) (sym c.as_slice.ensures) closed) among)

pub returns-clause-found : goal.returns-clause-found
returns-clause-found g c =
    let place = c.args.self.now in
    found_without place.compiled.now (g.G.GraphRead.meaning place.graph.now) place.pattern.now c.requires.valid 0 c.requires.in_range c.args.plan.now c.requires.plan c.args.elem c.in-None.ensures.value

pub returns-clause-cost : goal.returns-clause-cost
returns-clause-cost g c = λ w most few sparse. cost_without c.args.steps.now c.begin.new.steps c.begin.ensures.at_most w most
