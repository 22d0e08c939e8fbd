use Rattle.std.proofs.Common.{length, sym, ◌∙◌, ap}
use Rattle.std.proofs.lemmas.Result.{IfOk-weaker}
use Rattle.pgs_syntax.specs.declared.specification.Spec.{Word}
use Rattle.pgs_syntax.specs.Fitting.{suits, is_only}
use Rattle.pgs_syntax.specs.Join.{of_triples}
use Rattle.pgs_syntax.specs.Valid.{is_valid_spec}
use Rattle.pgs_shapes.proofs.Counted.{copies_within}
use Rattle.pgs_shapes.proofs.Middles.{asked_of_middle, never_past}
use Rattle.pgs_shapes.proofs.middle.leaf_triples.Goals as goal

pub returns-in_ok-shape-in-Label-clause-denote : goal.returns-in_ok-shape-in-Label-clause-denote
returns-in_ok-shape-in-Label-clause-denote c =
    let shape = c.in_ok-shape-in-Label.shape in
    IfOk-weaker c.one.result _ _
    (λ triples is valid test each t pairs. asked_of_middle triples c.middle_triple.result shape (is_only c.in-Label.label) t is
    (c.middle_triple.ensures t) (c.in_ok-shape-in-Label.ensures t.own)
    ∙ ap (λ leaf. suits of_triples test (Word leaf) t) (sym c.in-Label.is)) c.one.ensures

pub returns-in-None-clause-denote : goal.returns-in-None-clause-denote
returns-in-None-clause-denote c = λ valid test each t pairs.
    absurd (never_past c.args.named.now c.in-Named.number
    (ap (λ leaf. is_valid_spec (length c.args.named.now) (Word leaf)) (sym c.in-Named.is) ∙ valid) c.in-None.ensures)

pub returns-in-Some-clause-within : goal.returns-in-Some-clause-within
returns-in-Some-clause-within c =
    IfOk-weaker c.copy_triples.result _ _
    (copies_within c.args.leaf.now c.args.named.now c.in-Named.number c.in-Some.list.now _ c.in-Named.is c.in-Some.ensures c.as_slice.ensures)
    c.copy_triples.ensures.count
