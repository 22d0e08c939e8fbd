use Rattle.std.proofs.Common.{◌∙◌, ap, arith}
use Rattle.std.specs.List.{list_any}
use Rattle.std.proofs.lemmas.List.{take_all}
use Rattle.pgs_syntax.specs.Join.{of_pairs, joined}
use Rattle.pgs_conform.specs.Shapes.{in_shape, in_some}
use Rattle.pgs_product.proofs.Several.{any_joined}
use Rattle.pgs_product.proofs.lists.products.Goals as goal

pub returns-clause-denote : goal.returns-clause-denote
returns-clause-denote c = λ p pair.
    let first = c.args.first.now in
    let second = c.args.second.now in
    ap (λ shapes. in_some shapes p) c.from_vec.ensures ∙ c.loop-shape.invariant.denote p pair
    ∙ ap (list_any (λ one. list_any (λ other. joined of_pairs (in_shape one) (in_shape other) p) second)) (take_all c.loop-shape.shape-index first (omega arith))
    ∙ any_joined of_pairs in_shape first second p
