use Rattle.std.proofs.Common.{◌∙◌, ◌+◌, length, filter, sym, ap, subst, arith}
use Rattle.std.specs.List.{Contains, sum_by}
use Rattle.std.proofs.lemmas.Bool.{and_parts}
use Rattle.std.proofs.lemmas.Result.{IfOk-weaker, on_ok_weaker}
use Rattle.pgs_base.specs.declared.element.Elem.{Elem}
use Rattle.pgs_syntax.specs.KeyValues.{is_in_scope}
use Rattle.pgs_match.specs.Learned.{HasSearched}
use Rattle.pgs_match.specs.Planned.{most_edges}
use Rattle.pgs_match.specs.Spread.{elem_degree}
use Rattle.pgs_match.proofs.Rates.{searched}
use Rattle.pgs_match.proofs.Scopes.{kind_is_scope}
use Rattle.pgs_match.proofs.calls.each_x.Goals as goal

pub returns-in_err-elements-clause-cost : goal.returns-in_err-elements-clause-cost
returns-in_err-elements-clause-cost g c = λ most within.
    searched _ 0 most (most_edges c.args.key.now) c.args.steps.now c.each_element.new.steps c.each_element.new.steps (omega arith) c.each_element.ensures.cost (omega arith)

pub returns-clause-scope : goal.returns-clause-scope
returns-clause-scope g c =
    let graph = g.G.GraphRead.meaning c.args.graph.now in
    let p = is_in_scope c.args.compiled.now graph c.args.key.now in
    IfOk-weaker c.scope_among.result _ _
    (λ scope same. same ∙ ap (filter p) (c.as_slice.ensures ∙ c.in_ok-elements.ensures.elems) ∙ kind_is_scope c.args.compiled.now graph c.args.key.now (and_parts _ _ (and_parts _ _ c.requires).0).0)
    c.scope_among.ensures.among

pub returns-clause-cost : goal.returns-clause-cost
returns-clause-cost g c = λ most within.
    let same = ap length (c.as_slice.ensures ∙ c.in_ok-elements.ensures.elems) in
    searched _ (length c.as_slice.result.now) most (most_edges c.args.key.now) c.args.steps.now c.each_element.new.steps c.scope_among.new.steps
    (omega (arith, same)) c.each_element.ensures.cost (c.scope_among.ensures.cost most within)

pub returns-clause-once : goal.returns-clause-once
returns-clause-once g c = λ acyclic pairs all.
    let graph = g.G.GraphRead.meaning c.args.graph.now in
    let same = c.as_slice.ensures ∙ c.in_ok-elements.ensures.elems in
    let each = subst (λ elems. (elem : Elem) → Contains elems elem → HasSearched c.args.compiled.now graph c.args.key.now.scope elem pairs) (sym same) all in
    let whole = ap (sum_by (λ (elem : Elem). elem_degree graph elem + 2)) same in
    on_ok_weaker c.scope_among.result (λ once. omega (arith, whole, once, c.each_element.ensures.cost)) (c.scope_among.ensures.once acyclic pairs each)
