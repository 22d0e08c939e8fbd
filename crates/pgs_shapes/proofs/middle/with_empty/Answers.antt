use Rattle.std.proofs.Common.{◌++◌, ◌∷◌, [], ◌∙◌, ap}
use Rattle.pgs_shapes.proofs.Middles.{empty_added}
use Rattle.pgs_shapes.proofs.middle.with_empty.Goals as goal

pub returns-clause-denote : goal.returns-clause-denote
returns-clause-denote c = λ t.
    let middle = c.middle_triple.result in
    empty_added c.args.triples c.from_vec.result middle c.empty_shape.result t
    (c.from_vec.ensures ∙ c.in_ok-push.ensures.items ∙ ap (λ triples. triples ++ middle ∷ []) c.into_vec-items.ensures.items)
    (c.middle_triple.ensures t) (c.empty_shape.ensures t.own)
