use Rattle.std.proofs.Common.{◌≡◌, ◌+◌, ◌*◌, ◌≤◌, true, ◌&&◌, ◌==◌, not, [], length, IfOk, sym, ◌∙◌, subst, true≢false, arith}
use Rattle.std.specs.Option.{option_map_or}
use Rattle.std.specs.List.{sum_by}
use Rattle.std.proofs.lemmas.Bool.{and_parts}
use Rattle.pgs_match.specs.declared.stand.Stand.{Stand}
use Rattle.pgs_match.specs.Bounds.{with_bound, nothing_bound}
use Rattle.pgs_match.specs.Branches.{is_tree}
use Rattle.pgs_match.specs.Frontier.{leads_to_one}
use Rattle.pgs_match.specs.Learned.{is_short}
use Rattle.pgs_match.specs.Plans.{is_plan}
use Rattle.pgs_match.specs.Search.{gathered}
use Rattle.pgs_match.specs.Spread.{elem_degree}
use Rattle.pgs_match.specs.Tests.{admitted}
use Rattle.pgs_match.proofs.FrontierPlans.{way_is_path}
use Rattle.pgs_match.proofs.Learning.{short_left}
use Rattle.pgs_match.proofs.ToOne.{on_any, pair_within}
use Rattle.pgs_match.proofs.searching.Place.tuples.Goals as goal

pub tuples_by_all-requires-clause-plan : goal.tuples_by_all-requires-clause-plan
tuples_by_all-requires-clause-plan g c = subst (λ steps. is_plan c.args.self.now.pattern.now c.args.var steps ≡ true) (sym c.as_slice-all.ensures) c.requires.plan.0

pub returns-then-not-is_tree-clause-value : goal.returns-then-not-is_tree-clause-value
returns-then-not-is_tree-clause-value g c =
    let place = c.args.self.now in
    let graph = g.G.GraphRead.meaning place.graph.now in
    subst (λ steps. IfOk c.tuples_by_all.result (λ tuples. tuples ≡ option_map_or (λ bound. gathered place.compiled.now graph place.pattern.now.atoms c.args.exprs.now steps (with_bound nothing_bound c.args.var bound) [])
    (admitted place.compiled.now graph place.pattern.now c.args.var c.args.elem) [])) c.as_slice-all.ensures c.tuples_by_all.ensures.value

pub returns-then-not-is_tree-clause-routes : goal.returns-then-not-is_tree-clause-routes
returns-then-not-is_tree-clause-routes g c = λ tree.
    absurd (true≢false (sym (subst (λ atoms. is_tree atoms c.as_slice-all.result.now ≡ true) (sym c.as_slice-atoms.ensures)
    (subst (λ steps. is_tree c.args.self.now.pattern.now.atoms steps ≡ true) (sym c.as_slice-all.ensures) tree)) ∙ sym c.is_tree.ensures ∙ c.if-not-is_tree.true))

pub returns-then-not-is_tree-clause-walks : goal.returns-then-not-is_tree-clause-walks
returns-then-not-is_tree-clause-walks g c = λ tree.
    absurd (true≢false (sym (subst (λ atoms. is_tree atoms c.as_slice-all.result.now ≡ true) (sym c.as_slice-atoms.ensures)
    (subst (λ steps. is_tree c.args.self.now.pattern.now.atoms steps ≡ true) (sym c.as_slice-all.ensures) tree)) ∙ sym c.is_tree.ensures ∙ c.if-not-is_tree.true))

pub returns-then-not-is_tree-clause-once : goal.returns-then-not-is_tree-clause-once
returns-then-not-is_tree-clause-once g c = λ tree.
    absurd (true≢false (sym (subst (λ atoms. is_tree atoms c.as_slice-all.result.now ≡ true) (sym c.as_slice-atoms.ensures)
    (subst (λ steps. is_tree c.args.self.now.pattern.now.atoms steps ≡ true) (sym c.as_slice-all.ensures) tree)) ∙ sym c.is_tree.ensures ∙ c.if-not-is_tree.true))

pub tuples_by_nodes-requires-clause-tree : goal.tuples_by_nodes-requires-clause-tree
tuples_by_nodes-requires-clause-tree g c =
    subst (λ steps. is_tree c.args.self.now.pattern.now.atoms steps ≡ true) c.as_slice-all.ensures
    (subst (λ atoms. is_tree atoms c.as_slice-all.result.now ≡ true) c.as_slice-atoms.ensures (sym c.is_tree.ensures ∙ c.if-not-is_tree.false))

pub tuples_by_ways-requires-clause-tree : goal.tuples_by_ways-requires-clause-tree
tuples_by_ways-requires-clause-tree g c =
    subst (λ steps. is_tree c.args.self.now.pattern.now.atoms steps ≡ true) c.as_slice-all.ensures
    (subst (λ atoms. is_tree atoms c.as_slice-all.result.now ≡ true) c.as_slice-atoms.ensures (sym c.is_tree.ensures ∙ c.if-not-is_tree.false))

pub tuples_by_nodes-requires-clause-one : goal.tuples_by_nodes-requires-clause-one
tuples_by_nodes-requires-clause-one g c =
    let plan = c.args.plan.now in
    (and_parts (not (is_short plan.on && length plan.off == 0)) (leads_to_one c.args.var plan.on c.args.exprs.now) (sym c.is_by_nodes.ensures ∙ c.if-is_by_nodes.true)).1

pub returns-then-is_by_nodes-clause-routes : goal.returns-then-is_by_nodes-clause-routes
returns-then-is_by_nodes-clause-routes g c = λ tree. c.tuples_by_nodes.ensures.routes

pub returns-then-is_by_nodes-clause-walks : goal.returns-then-is_by_nodes-clause-walks
returns-then-is_by_nodes-clause-walks g c = λ tree. c.tuples_by_nodes.ensures.walks

pub returns-else-is_by_nodes-clause-routes : goal.returns-else-is_by_nodes-clause-routes
returns-else-is_by_nodes-clause-routes g c = λ tree. c.tuples_by_ways.ensures.routes

pub returns-else-is_by_nodes-clause-walks : goal.returns-else-is_by_nodes-clause-walks
returns-else-is_by_nodes-clause-walks g c = λ tree. c.tuples_by_ways.ensures.walks

pub returns-then-is_by_nodes-clause-once : goal.returns-then-is_by_nodes-clause-once
returns-then-is_by_nodes-clause-once g c = λ tree other only pairs has closed. c.tuples_by_nodes.ensures.once pairs has closed

pub returns-else-is_by_nodes-clause-once : goal.returns-else-is_by_nodes-clause-once
returns-else-is_by_nodes-clause-once g c = λ tree other only pairs has closed.
    let place = c.args.self.now in
    let graph = g.G.GraphRead.meaning place.graph.now in
    let plan = c.args.plan.now in
    let exprs = c.args.exprs.now in
    let leads : leads_to_one c.args.var plan.on exprs ≡ true =
    subst (λ on. leads_to_one c.args.var on exprs ≡ true) (sym c.requires.plan.1)
    (way_is_path place.pattern.now c.args.var other plan.steps exprs c.requires.valid c.requires.plan.0 only c.requires.reads) in
    let short = short_left (is_short plan.on && length plan.off == 0) (leads_to_one c.args.var plan.on exprs) (sym c.is_by_nodes.ensures ∙ c.if-is_by_nodes.false) leads in
    let cost = c.tuples_by_ways.ensures.short short leads in
    let here = pair_within graph pairs c.args.var c.args.elem has in
    on_any c.tuples_by_ways.result (c.tuples_by_ways.new.steps ≤ c.args.steps.now + 1400 * sum_by (λ (stand : Stand). elem_degree graph stand.elem + 2) pairs) (omega (arith, cost, here))
