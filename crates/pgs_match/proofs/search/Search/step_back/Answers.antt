use Rattle.std.proofs.Common.{◌≡◌, ◌+◌, ◌≤◌, ◌++◌, true, flat_map, ap, ◌∙◌, subst, arith}
use Rattle.std.specs.List.{Contains, list_any, sum_by}
use Rattle.std.proofs.lemmas.List.Sums.{sum_by_more, sum_by_more_le}
use Rattle.pgs_base.specs.declared.element.Elem.{Elem}
use Rattle.pgs_base.specs.declared.element.Elem.TheVariants.{Node}
use Rattle.pgs_syntax.specs.Matches.{same_elem}
use Rattle.pgs_match.specs.Plans.{bound_by}
use Rattle.pgs_match.specs.Spread.{elems_at, not_at, back_most, back}
use Rattle.pgs_match.proofs.Along.{take_whole}
use Rattle.pgs_match.proofs.Leading.{flat_next, step_all, step_few, step_cost}
use Rattle.pgs_match.proofs.Passed.{step_once}
use Rattle.pgs_match.proofs.search.Search.step_back.Goals as goal

pub loop-elem-preserved : goal.loop-elem-preserved
loop-elem-preserved g c =
    let graph = g.G.GraphRead.meaning c.args.self.now.graph.now in
    let elems = c.as_slice-elems.result.now in
    let past = c.loop-elem.invariant in
    let more = sum_by_more (back_most graph c.args.step) elems c.loop-elem.elem-index (Node (record { 0 = 0 })) c.loop-elem-test.true in
    record {
      so_far =
          flat_next (back c.args.self.now.compiled.now graph c.args.self.now.atoms.now c.args.step) (not_at (bound_by c.args.step) c.args.stands.now) c.loop-elem.others.items _ elems c.loop-elem.elem-index (Node (record { 0 = 0 }))
          c.loop-elem-test.true past.so_far c.in_ok-add_back.ensures.added;
      no_step_back = omega (arith, past.no_step_back, c.add_back.ensures.no_step_back);
      cost = omega (arith, past.cost, c.add_back.ensures.cost, more);
    }

pub returns-in_err-add_back-clause-cost : goal.returns-in_err-add_back-clause-cost
returns-in_err-add_back-clause-cost g c =
    let graph = g.G.GraphRead.meaning c.args.self.now.graph.now in
    let elems = c.as_slice-elems.result.now in
    let more = sum_by_more_le (back_most graph c.args.step) elems c.loop-elem.elem-index (Node (record { 0 = 0 })) c.loop-elem-test.true in
    let part : c.add_back.new.steps ≤ c.args.steps.now + sum_by (back_most graph c.args.step) elems = omega (arith, c.loop-elem.invariant.cost, c.add_back.ensures.cost, more) in
    step_cost c.args.self.now.compiled.now graph c.args.self.now.atoms.now c.args.step c.args.stands.now c.in_order-once.result c.args.steps.now c.add_back.new.steps
    (λ count. subst (λ xs. sum_by count c.in_order-once.result ≤ sum_by count xs) (c.in_ok-here.ensures.0 ∙ ap (λ v. elems_at v c.args.stands.now) c.bound.ensures) (c.in_order-once.ensures.few count))
    (subst (λ xs. c.add_back.new.steps ≤ c.args.steps.now + sum_by (back_most graph c.args.step) xs) c.as_slice-elems.ensures part)

pub returns-clause-all : goal.returns-clause-all
returns-clause-all g c =
    let graph = g.G.GraphRead.meaning c.args.self.now.graph.now in
    let resolved = c.args.self.now.compiled.now in
    let atoms = c.args.self.now.atoms.now in
    let whole = c.loop-elem.invariant.so_far
    ∙ ap (λ xs. not_at (bound_by c.args.step) c.args.stands.now ++ flat_map (back resolved graph atoms c.args.step) xs) (take_whole c.as_slice-elems.result.now c.loop-elem.elem-index c.loop-elem-test.false ∙ c.as_slice-elems.ensures) in
    step_all resolved graph atoms c.args.step c.args.stands.now c.in_order-once.result c.loop-elem.others.items whole
    (subst (λ xs. (elem : Elem) → Contains xs elem → list_any (same_elem elem) c.in_order-once.result ≡ true) (c.in_ok-here.ensures.0 ∙ ap (λ v. elems_at v c.args.stands.now) c.bound.ensures) c.in_order-once.ensures.kept)

pub returns-clause-few : goal.returns-clause-few
returns-clause-few g c =
    let graph = g.G.GraphRead.meaning c.args.self.now.graph.now in
    let resolved = c.args.self.now.compiled.now in
    let atoms = c.args.self.now.atoms.now in
    let whole = c.loop-elem.invariant.so_far
    ∙ ap (λ xs. not_at (bound_by c.args.step) c.args.stands.now ++ flat_map (back resolved graph atoms c.args.step) xs) (take_whole c.as_slice-elems.result.now c.loop-elem.elem-index c.loop-elem-test.false ∙ c.as_slice-elems.ensures) in
    step_few resolved graph atoms c.args.step c.args.stands.now c.in_order-once.result c.loop-elem.others.items whole
    (λ count. subst (λ xs. sum_by count c.in_order-once.result ≤ sum_by count xs) (c.in_ok-here.ensures.0 ∙ ap (λ v. elems_at v c.args.stands.now) c.bound.ensures) (c.in_order-once.ensures.few count))

pub returns-clause-cost : goal.returns-clause-cost
returns-clause-cost g c =
    let graph = g.G.GraphRead.meaning c.args.self.now.graph.now in
    step_cost c.args.self.now.compiled.now graph c.args.self.now.atoms.now c.args.step c.args.stands.now c.in_order-once.result c.args.steps.now c.loop-elem.steps
    (λ count. subst (λ xs. sum_by count c.in_order-once.result ≤ sum_by count xs) (c.in_ok-here.ensures.0 ∙ ap (λ v. elems_at v c.args.stands.now) c.bound.ensures) (c.in_order-once.ensures.few count))
    (subst (λ xs. c.loop-elem.steps ≤ c.args.steps.now + sum_by (back_most graph c.args.step) xs) (take_whole c.as_slice-elems.result.now c.loop-elem.elem-index c.loop-elem-test.false ∙ c.as_slice-elems.ensures) c.loop-elem.invariant.cost)

pub returns-in_err-add_back-clause-once : goal.returns-in_err-add_back-clause-once
returns-in_err-add_back-clause-once g c = λ pairs all.
    let graph = g.G.GraphRead.meaning c.args.self.now.graph.now in
    let elems = c.as_slice-elems.result.now in
    let more = sum_by_more_le (back_most graph c.args.step) elems c.loop-elem.elem-index (Node (record { 0 = 0 })) c.loop-elem-test.true in
    let part : c.add_back.new.steps ≤ c.args.steps.now + sum_by (back_most graph c.args.step) elems = omega (arith, c.loop-elem.invariant.cost, c.add_back.ensures.cost, more) in
    step_once c.args.self.now.compiled.now graph c.args.self.now.atoms.now c.args.step c.args.stands.now pairs c.in_order-once.result c.args.steps.now c.add_back.new.steps c.in_order-once.ensures.ascending
    (subst (λ xs. (elem : Elem) → Contains c.in_order-once.result elem → Contains xs elem) (c.in_ok-here.ensures.0 ∙ ap (λ v. elems_at v c.args.stands.now) c.bound.ensures) c.in_order-once.ensures.no_other)
    all (subst (λ xs. c.add_back.new.steps ≤ c.args.steps.now + sum_by (back_most graph c.args.step) xs) c.as_slice-elems.ensures part)

pub returns-clause-once : goal.returns-clause-once
returns-clause-once g c = λ pairs all.
    let graph = g.G.GraphRead.meaning c.args.self.now.graph.now in
    step_once c.args.self.now.compiled.now graph c.args.self.now.atoms.now c.args.step c.args.stands.now pairs c.in_order-once.result c.args.steps.now c.loop-elem.steps c.in_order-once.ensures.ascending
    (subst (λ xs. (elem : Elem) → Contains c.in_order-once.result elem → Contains xs elem) (c.in_ok-here.ensures.0 ∙ ap (λ v. elems_at v c.args.stands.now) c.bound.ensures) c.in_order-once.ensures.no_other)
    all (subst (λ xs. c.loop-elem.steps ≤ c.args.steps.now + sum_by (back_most graph c.args.step) xs) (take_whole c.as_slice-elems.result.now c.loop-elem.elem-index c.loop-elem-test.false ∙ c.as_slice-elems.ensures) c.loop-elem.invariant.cost)
