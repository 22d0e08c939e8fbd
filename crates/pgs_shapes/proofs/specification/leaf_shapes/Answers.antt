use Rattle.std.proofs.Common.{sym, ◌∙◌, ap}
use Rattle.std.proofs.Math.Bool.{or-false}
use Rattle.std.proofs.lemmas.Result.{IfOk-weaker}
use Rattle.pgs_syntax.specs.declared.specification.Spec.{Word}
use Rattle.pgs_syntax.specs.Fitting.{suits}
use Rattle.pgs_syntax.specs.Join.{of_pairs}
use Rattle.pgs_conform.specs.Shapes.{in_shape, in_some}
use Rattle.pgs_shapes.proofs.Counted.{copies_within}
use Rattle.pgs_shapes.proofs.specification.leaf_shapes.Goals as goal

pub returns-in_ok-shape-in-Label-clause-denote : goal.returns-in_ok-shape-in-Label-clause-denote
returns-in_ok-shape-in-Label-clause-denote c =
    let shape = c.in_ok-shape-in-Label.shape in
    IfOk-weaker c.one.result _ _
    (λ shapes is valid test each p pair. ap (λ list. in_some list p) is ∙ or-false (in_shape shape p) ∙ c.in_ok-shape-in-Label.ensures p
    ∙ ap (λ leaf. suits of_pairs test (Word leaf) p) (sym c.in-Label.is)) c.one.ensures

pub returns-in-Some-clause-denote : goal.returns-in-Some-clause-denote
returns-in-Some-clause-denote c =
    IfOk-weaker c.copy_shapes.result _ _
    (λ copies same valid test each p pair. same p ∙ ap (λ shapes. in_some shapes p) c.as_slice.ensures
    ∙ each c.in-Named.number c.in-Some.list.now (sym c.in-Some.ensures) p pair
    ∙ ap (λ leaf. suits of_pairs test (Word leaf) p) (sym c.in-Named.is)) c.copy_shapes.ensures.same

pub returns-in-Some-clause-within : goal.returns-in-Some-clause-within
returns-in-Some-clause-within c =
    IfOk-weaker c.copy_shapes.result _ _
    (copies_within c.args.leaf.now c.args.named.now c.in-Named.number c.in-Some.list.now _ c.in-Named.is c.in-Some.ensures c.as_slice.ensures)
    c.copy_shapes.ensures.count
