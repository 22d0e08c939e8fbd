use Rattle.std.proofs.Common.{◌≡◌, ℕ, ◌+◌, ◌≤◌, Bool, true, flat_map, sym, ap, ◌∙◌, subst, arith}
use Rattle.std.specs.List.{list_any, sum_by}
use Rattle.std.proofs.lemmas.Result.{IfOk-weaker}
use Rattle.pgs_match.specs.declared.stand.Stand.{Stand}
use Rattle.pgs_match.specs.Spread.{led_back, one_back, one_most, led_most, once_most, HasPassed}
use Rattle.pgs_match.proofs.Leading.{led_none, led_all, led_few, led_cost, led_cost_before}
use Rattle.pgs_match.proofs.Passed.{passed_rest, far_within, once_cost, once_cost_before}
use Rattle.pgs_match.proofs.search.Search.+lead_back.Goals as goal

pub returns-in-None-clause-all : goal.returns-in-None-clause-all
returns-in-None-clause-all g t c = λ test some.
    let graph = g.G.GraphRead.meaning c.args.self.now.graph.now in
    let resolved = c.args.self.now.compiled.now in
    let atoms = c.args.self.now.atoms.now in
    sym (ap (λ plan. list_any test (flat_map (led_back resolved graph atoms plan) c.args.stands.items)) c.in-None.ensures ∙ ap (list_any test) (led_none resolved graph atoms c.args.stands.items)) ∙ some

pub returns-in-None-clause-few : goal.returns-in-None-clause-few
returns-in-None-clause-few g t c = λ count.
    let graph = g.G.GraphRead.meaning c.args.self.now.graph.now in
    let resolved = c.args.self.now.compiled.now in
    let atoms = c.args.self.now.atoms.now in
    let same = ap (λ plan. sum_by count (flat_map (led_back resolved graph atoms plan) c.args.stands.items)) c.in-None.ensures ∙ ap (sum_by count) (led_none resolved graph atoms c.args.stands.items) in
    omega (arith, same)

pub returns-in_err-far-in-Some-clause-cost : goal.returns-in_err-far-in-Some-clause-cost
returns-in_err-far-in-Some-clause-cost g t c =
    let graph = g.G.GraphRead.meaning c.args.self.now.graph.now in
    let resolved = c.args.self.now.compiled.now in
    let atoms = c.args.self.now.atoms.now in
    subst (λ plan. c.lead_back.new.steps ≤ c.args.steps.now + sum_by (led_most resolved graph atoms plan) c.args.stands.items) (sym c.in-Some.ensures)
    (led_cost_before resolved graph atoms c.in-Some.step c.in-Some.rest.now c.args.stands.items c.args.steps.now c.lead_back.new.steps c.lead_back.ensures.cost)

pub returns-in_ok-far-in-Some-clause-cost : goal.returns-in_ok-far-in-Some-clause-cost
returns-in_ok-far-in-Some-clause-cost g t c =
    let graph = g.G.GraphRead.meaning c.args.self.now.graph.now in
    let resolved = c.args.self.now.compiled.now in
    let atoms = c.args.self.now.atoms.now in
    subst (λ plan. c.step_back.new.steps ≤ c.args.steps.now + sum_by (led_most resolved graph atoms plan) c.args.stands.items) (sym c.in-Some.ensures)
    (led_cost resolved graph atoms c.in-Some.step c.in-Some.rest.now c.args.stands.items c.in_ok-far-in-Some.far.items c.args.steps.now c.lead_back.new.steps c.step_back.new.steps
    c.in_ok-far-in-Some.ensures.few c.lead_back.ensures.cost
    (subst (λ xs. c.step_back.new.steps ≤ c.lead_back.new.steps + sum_by (one_most graph c.in-Some.step) xs) c.as_slice.ensures.value c.step_back.ensures.cost))

pub returns-in_ok-far-in-Some-clause-all : goal.returns-in_ok-far-in-Some-clause-all
returns-in_ok-far-in-Some-clause-all g t c =
    let graph = g.G.GraphRead.meaning c.args.self.now.graph.now in
    let resolved = c.args.self.now.compiled.now in
    let atoms = c.args.self.now.atoms.now in
    IfOk-weaker c.step_back.result _ _
    (λ ends all.
    subst (λ plan. (test : Stand → Bool) → list_any test (flat_map (led_back resolved graph atoms plan) c.args.stands.items) ≡ true → list_any test ends.items ≡ true) (sym c.in-Some.ensures)
    (led_all resolved graph atoms c.in-Some.step c.in-Some.rest.now c.args.stands.items c.in_ok-far-in-Some.far.items ends.items c.in_ok-far-in-Some.ensures.all
    (subst (λ xs. (test : Stand → Bool) → list_any test (flat_map (one_back resolved graph atoms c.in-Some.step) xs) ≡ true → list_any test ends.items ≡ true) c.as_slice.ensures.value all)))
    c.step_back.ensures.all

pub returns-in_ok-far-in-Some-clause-few : goal.returns-in_ok-far-in-Some-clause-few
returns-in_ok-far-in-Some-clause-few g t c =
    let graph = g.G.GraphRead.meaning c.args.self.now.graph.now in
    let resolved = c.args.self.now.compiled.now in
    let atoms = c.args.self.now.atoms.now in
    IfOk-weaker c.step_back.result _ _
    (λ ends few.
    subst (λ plan. (count : Stand → ℕ) → sum_by count ends.items ≤ sum_by count (flat_map (led_back resolved graph atoms plan) c.args.stands.items)) (sym c.in-Some.ensures)
    (led_few resolved graph atoms c.in-Some.step c.in-Some.rest.now c.args.stands.items c.in_ok-far-in-Some.far.items ends.items c.in_ok-far-in-Some.ensures.few
    (subst (λ xs. (count : Stand → ℕ) → sum_by count ends.items ≤ sum_by count (flat_map (one_back resolved graph atoms c.in-Some.step) xs)) c.as_slice.ensures.value few)))
    c.step_back.ensures.few

pub returns-in_err-far-in-Some-clause-once : goal.returns-in_err-far-in-Some-clause-once
returns-in_err-far-in-Some-clause-once g t c = λ pairs passed.
    let graph = g.G.GraphRead.meaning c.args.self.now.graph.now in
    let resolved = c.args.self.now.compiled.now in
    let atoms = c.args.self.now.atoms.now in
    let starts = c.args.stands.items in
    let whole = subst (λ plan. HasPassed resolved graph atoms plan starts pairs) c.in-Some.ensures passed in
    subst (λ plan. c.lead_back.new.steps ≤ c.args.steps.now + once_most graph plan pairs) (sym c.in-Some.ensures)
    (once_cost_before graph c.in-Some.step c.in-Some.rest.now pairs c.args.steps.now c.lead_back.new.steps
    (c.lead_back.ensures.once pairs (passed_rest resolved graph atoms c.in-Some.step c.in-Some.rest.now starts pairs whole)))

pub returns-in_ok-far-in-Some-clause-once : goal.returns-in_ok-far-in-Some-clause-once
returns-in_ok-far-in-Some-clause-once g t c = λ pairs passed.
    let graph = g.G.GraphRead.meaning c.args.self.now.graph.now in
    let resolved = c.args.self.now.compiled.now in
    let atoms = c.args.self.now.atoms.now in
    let starts = c.args.stands.items in
    let step = c.in-Some.step in
    let rest = c.in-Some.rest.now in
    let far = c.in_ok-far-in-Some.far.items in
    let whole = subst (λ plan. HasPassed resolved graph atoms plan starts pairs) c.in-Some.ensures passed in
    let before = passed_rest resolved graph atoms step rest starts pairs whole in
    subst (λ plan. c.step_back.new.steps ≤ c.args.steps.now + once_most graph plan pairs) (sym c.in-Some.ensures)
    (once_cost graph step rest pairs c.args.steps.now c.lead_back.new.steps c.step_back.new.steps (c.lead_back.ensures.once pairs before)
    (subst (λ xs. ((test : Stand → Bool) → list_any test xs ≡ true → list_any test pairs ≡ true) → c.step_back.new.steps ≤ c.lead_back.new.steps + sum_by (one_most graph step) pairs) c.as_slice.ensures.value
    (c.step_back.ensures.once pairs) (far_within resolved graph atoms rest starts pairs far before c.in_ok-far-in-Some.ensures.few)))
