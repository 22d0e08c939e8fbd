use Rattle.std.proofs.Common.{◌≡◌, ℕ, ◌+◌, ◌≤◌, Bool, List, true, false, flat_map, length, replicate, sym, subst, ◌∙◌, ap, arith}
use Rattle.std.specs.List.{list_any, sum_by, Contains}
use Rattle.std.proofs.lemmas.Bool.{and_parts}
use Rattle.std.proofs.lemmas.List.{length-set}
use Rattle.std.proofs.lemmas.List.Elements.{All-weaker, All-contains_itself}
use Rattle.pgs_syntax.specs.declared.pattern.Pattern.{Pattern}
use Rattle.pgs_match.specs.declared.stand.Stand.{Stand}
use Rattle.pgs_match.specs.Planned.{most_edges, pattern_of}
use Rattle.pgs_match.specs.Plans.{known_alone, are_steps, is_plan}
use Rattle.pgs_match.specs.Spread.{elems_at, led_back, led_most, once_most, HasPassed, IsNearSome}
use Rattle.pgs_match.proofs.Passed.{once_less}
use Rattle.pgs_match.proofs.Scopes.{side_valid, side_edges}
use Rattle.pgs_match.proofs.SpreadEnds.{contains_it, sum_ones, reached_stands, stands_near, stands_few, stands_cost}
use Rattle.pgs_match.proofs.calls.spread.Goals as goal

pub returns-clause-all : goal.returns-clause-all
returns-clause-all g c =
    let graph = g.G.GraphRead.meaning c.args.graph.now in
    let resolved = c.args.compiled.now in
    let key = c.args.key.now in
    let side = c.args.side in
    let starts = c.args.starts.items in
    let plan = c.as_slice-2.result.now in
    let valid = side_valid side key c.pattern.ensures.valid in
    let plans = subst (λ steps. is_plan (pattern_of side key) 0 steps ≡ true) (sym c.as_slice-2.ensures) c.plan-plan.ensures.0 in
    let atoms_is = c.as_slice.ensures ∙ ap (λ (p : Pattern). p.atoms) c.pattern.ensures.pattern in
    let ends = c.in_ok-ends.ends.items in
    let firsts_is = c.in_ok-firsts.ensures.0 ∙ ap (elems_at 0) c.as_slice-3.ensures.value in
    let every = subst (λ atoms. (test : Stand → Bool) → list_any test (flat_map (led_back resolved graph atoms plan) starts) ≡ true → list_any test ends ≡ true) atoms_is c.in_ok-ends.ensures.all in
    λ start own elem it.
    contains_it c.in_order.result elem
    (c.in_order.ensures.kept elem
    (subst (λ xs. Contains xs elem) (sym firsts_is) (reached_stands resolved graph (pattern_of side key) valid plan plans starts c.requires.in_range ends every start own elem it)))

pub returns-clause-near : goal.returns-clause-near
returns-clause-near g c =
    let graph = g.G.GraphRead.meaning c.args.graph.now in
    let resolved = c.args.compiled.now in
    let key = c.args.key.now in
    let side = c.args.side in
    let starts = c.args.starts.items in
    let plan = c.as_slice-2.result.now in
    let valid = side_valid side key c.pattern.ensures.valid in
    let plans = subst (λ steps. is_plan (pattern_of side key) 0 steps ≡ true) (sym c.as_slice-2.ensures) c.plan-plan.ensures.0 in
    let atoms_is = c.as_slice.ensures ∙ ap (λ (p : Pattern). p.atoms) c.pattern.ensures.pattern in
    let ends = c.in_ok-ends.ends.items in
    let firsts_is = c.in_ok-firsts.ensures.0 ∙ ap (elems_at 0) c.as_slice-3.ensures.value in
    let fewer = subst (λ atoms. (count : Stand → ℕ) → sum_by count ends ≤ sum_by count (flat_map (led_back resolved graph atoms plan) starts)) atoms_is c.in_ok-ends.ensures.few in
    All-weaker (Contains c.in_order.result) (IsNearSome graph (most_edges key) starts)
    (λ elem inside.
    stands_near resolved graph (pattern_of side key) valid plan plans starts c.requires.in_range c.count-elements.ensures.graph (most_edges key) (side_edges side key) ends fewer elem
    (subst (λ xs. Contains xs elem) firsts_is (c.in_order.ensures.no_other elem inside)))
    c.in_order.result (All-contains_itself c.in_order.result)

pub returns-clause-few : goal.returns-clause-few
returns-clause-few g c = λ most sparse.
    let graph = g.G.GraphRead.meaning c.args.graph.now in
    let resolved = c.args.compiled.now in
    let key = c.args.key.now in
    let side = c.args.side in
    let starts = c.args.starts.items in
    let plan = c.as_slice-2.result.now in
    let valid = side_valid side key c.pattern.ensures.valid in
    let plans = subst (λ steps. is_plan (pattern_of side key) 0 steps ≡ true) (sym c.as_slice-2.ensures) c.plan-plan.ensures.0 in
    let atoms_is = c.as_slice.ensures ∙ ap (λ (p : Pattern). p.atoms) c.pattern.ensures.pattern in
    let ends = c.in_ok-ends.ends.items in
    let firsts_is = c.in_ok-firsts.ensures.0 ∙ ap (elems_at 0) c.as_slice-3.ensures.value in
    let fewer = subst (λ atoms. (count : Stand → ℕ) → sum_by count ends ≤ sum_by count (flat_map (led_back resolved graph atoms plan) starts)) atoms_is c.in_ok-ends.ensures.few in
    let few = stands_few resolved graph (pattern_of side key) valid plan plans starts c.requires.in_range c.count-elements.ensures.graph (most_edges key) (side_edges side key) ends fewer most sparse in
    let less = c.in_order.ensures.few (λ x. 1) in
    let before = sum_ones c.in_ok-firsts.firsts.items in
    let after = sum_ones c.in_order.result in
    let size = ap (λ xs. length xs) firsts_is in
    omega (arith, few, less, before, after, size)

pub returns-in_err-ends-clause-cost : goal.returns-in_err-ends-clause-cost
returns-in_err-ends-clause-cost g c = λ most sparse.
    let graph = g.G.GraphRead.meaning c.args.graph.now in
    let resolved = c.args.compiled.now in
    let key = c.args.key.now in
    let side = c.args.side in
    let starts = c.args.starts.items in
    let plan = c.as_slice-2.result.now in
    let valid = side_valid side key c.pattern.ensures.valid in
    let plans = subst (λ steps. is_plan (pattern_of side key) 0 steps ≡ true) (sym c.as_slice-2.ensures) c.plan-plan.ensures.0 in
    let atoms_is = c.as_slice.ensures ∙ ap (λ (p : Pattern). p.atoms) c.pattern.ensures.pattern in
    let most_steps = stands_cost resolved graph (pattern_of side key) valid plan plans starts c.requires.in_range c.count-elements.ensures.graph (most_edges key) (side_edges side key) most sparse in
    let cost = subst (λ atoms. c.lead_back.new.steps ≤ c.args.steps.now + sum_by (led_most resolved graph atoms plan) starts) atoms_is c.lead_back.ensures.cost in
    omega (arith, most_steps, cost)

pub returns-in_err-firsts-clause-cost : goal.returns-in_err-firsts-clause-cost
returns-in_err-firsts-clause-cost g c = λ most sparse.
    let graph = g.G.GraphRead.meaning c.args.graph.now in
    let resolved = c.args.compiled.now in
    let key = c.args.key.now in
    let side = c.args.side in
    let starts = c.args.starts.items in
    let plan = c.as_slice-2.result.now in
    let valid = side_valid side key c.pattern.ensures.valid in
    let plans = subst (λ steps. is_plan (pattern_of side key) 0 steps ≡ true) (sym c.as_slice-2.ensures) c.plan-plan.ensures.0 in
    let atoms_is = c.as_slice.ensures ∙ ap (λ (p : Pattern). p.atoms) c.pattern.ensures.pattern in
    let most_steps = stands_cost resolved graph (pattern_of side key) valid plan plans starts c.requires.in_range c.count-elements.ensures.graph (most_edges key) (side_edges side key) most sparse in
    let cost = subst (λ atoms. c.lead_back.new.steps ≤ c.args.steps.now + sum_by (led_most resolved graph atoms plan) starts) atoms_is c.lead_back.ensures.cost in
    omega (arith, most_steps, cost)

pub returns-clause-cost : goal.returns-clause-cost
returns-clause-cost g c = λ most sparse.
    let graph = g.G.GraphRead.meaning c.args.graph.now in
    let resolved = c.args.compiled.now in
    let key = c.args.key.now in
    let side = c.args.side in
    let starts = c.args.starts.items in
    let plan = c.as_slice-2.result.now in
    let valid = side_valid side key c.pattern.ensures.valid in
    let plans = subst (λ steps. is_plan (pattern_of side key) 0 steps ≡ true) (sym c.as_slice-2.ensures) c.plan-plan.ensures.0 in
    let atoms_is = c.as_slice.ensures ∙ ap (λ (p : Pattern). p.atoms) c.pattern.ensures.pattern in
    let most_steps = stands_cost resolved graph (pattern_of side key) valid plan plans starts c.requires.in_range c.count-elements.ensures.graph (most_edges key) (side_edges side key) most sparse in
    let cost = subst (λ atoms. c.lead_back.new.steps ≤ c.args.steps.now + sum_by (led_most resolved graph atoms plan) starts) atoms_is c.lead_back.ensures.cost in
    omega (arith, most_steps, cost)

pub returns-in_err-ends-clause-once : goal.returns-in_err-ends-clause-once
returns-in_err-ends-clause-once g c =
    let graph = g.G.GraphRead.meaning c.args.graph.now in
    let resolved = c.args.compiled.now in
    let key = c.args.key.now in
    let side = c.args.side in
    let plan = c.as_slice-2.result.now in
    let starts = c.args.starts.items in
    let plans = subst (λ steps. is_plan (pattern_of side key) 0 steps ≡ true) (sym c.as_slice-2.ensures) c.plan-plan.ensures.0 in
    let atoms_is = c.as_slice.ensures ∙ ap (λ (p : Pattern). p.atoms) c.pattern.ensures.pattern in
    let cost = subst (λ atoms. (pairs : List Stand) → HasPassed resolved graph atoms plan starts pairs → c.lead_back.new.steps ≤ c.args.steps.now + once_most graph plan pairs) atoms_is c.lead_back.ensures.once in
    let steps = (and_parts (are_steps (pattern_of side key).atoms (known_alone 0) plan) _ plans).0 in
    let less = once_less resolved graph (pattern_of side key) (side_valid side key c.pattern.ensures.valid) plan (known_alone 0) (length-set (replicate 20 false) 0 true) steps in
    (plan, plans, λ pairs passed. let one = cost pairs passed in let all = less pairs in omega (arith, one, all))

pub returns-in_err-firsts-clause-once : goal.returns-in_err-firsts-clause-once
returns-in_err-firsts-clause-once g c =
    let graph = g.G.GraphRead.meaning c.args.graph.now in
    let resolved = c.args.compiled.now in
    let key = c.args.key.now in
    let side = c.args.side in
    let plan = c.as_slice-2.result.now in
    let starts = c.args.starts.items in
    let plans = subst (λ steps. is_plan (pattern_of side key) 0 steps ≡ true) (sym c.as_slice-2.ensures) c.plan-plan.ensures.0 in
    let atoms_is = c.as_slice.ensures ∙ ap (λ (p : Pattern). p.atoms) c.pattern.ensures.pattern in
    let cost = subst (λ atoms. (pairs : List Stand) → HasPassed resolved graph atoms plan starts pairs → c.lead_back.new.steps ≤ c.args.steps.now + once_most graph plan pairs) atoms_is c.lead_back.ensures.once in
    let steps = (and_parts (are_steps (pattern_of side key).atoms (known_alone 0) plan) _ plans).0 in
    let less = once_less resolved graph (pattern_of side key) (side_valid side key c.pattern.ensures.valid) plan (known_alone 0) (length-set (replicate 20 false) 0 true) steps in
    (plan, plans, λ pairs passed. let one = cost pairs passed in let all = less pairs in omega (arith, one, all))

pub returns-clause-once : goal.returns-clause-once
returns-clause-once g c =
    let graph = g.G.GraphRead.meaning c.args.graph.now in
    let resolved = c.args.compiled.now in
    let key = c.args.key.now in
    let side = c.args.side in
    let plan = c.as_slice-2.result.now in
    let starts = c.args.starts.items in
    let plans = subst (λ steps. is_plan (pattern_of side key) 0 steps ≡ true) (sym c.as_slice-2.ensures) c.plan-plan.ensures.0 in
    let atoms_is = c.as_slice.ensures ∙ ap (λ (p : Pattern). p.atoms) c.pattern.ensures.pattern in
    let cost = subst (λ atoms. (pairs : List Stand) → HasPassed resolved graph atoms plan starts pairs → c.lead_back.new.steps ≤ c.args.steps.now + once_most graph plan pairs) atoms_is c.lead_back.ensures.once in
    let steps = (and_parts (are_steps (pattern_of side key).atoms (known_alone 0) plan) _ plans).0 in
    let less = once_less resolved graph (pattern_of side key) (side_valid side key c.pattern.ensures.valid) plan (known_alone 0) (length-set (replicate 20 false) 0 true) steps in
    (plan, plans, λ pairs passed. let one = cost pairs passed in let all = less pairs in omega (arith, one, all))
