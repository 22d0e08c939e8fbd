use Rattle.std.proofs.Common.{arith}
use Rattle.std.proofs.lemmas.Result.{IfOk-weaker}
use Rattle.pgs_syntax.specs.Join.{of_pairs}
use Rattle.pgs_conform.specs.Shapes.{in_shape}
use Rattle.pgs_product.proofs.Halved.{front_fits, back_fits, product_count}
use Rattle.pgs_product.proofs.Joins.{IsGood, pairs_lawful}
use Rattle.pgs_product.proofs.Several.{one_denotes, halves_denote}
use Rattle.pgs_product.proofs.Walks.{one_item}
use Rattle.pgs_product.proofs.lists.+product_of_halves.Goals as goal

pub returns-in-len1-clause-denote : goal.returns-in-len1-clause-denote
returns-in-len1-clause-denote t c =
    let lists = c.args.lists.now in
    let only = c.only-item.result in
    let one = one_item lists only c.in-len1.len_at_least c.in-len1.len_below c.only-item.is in
    IfOk-weaker c.copy_shapes.result _ _ (λ copies same p good. one_denotes of_pairs IsGood pairs_lawful in_shape lists only _ copies one c.as_slice.ensures same p)
    c.copy_shapes.ensures.same

pub returns-in_ok-second-in_default-clause-denote : goal.returns-in_ok-second-in_default-clause-denote
returns-in_ok-second-in_default-clause-denote t c =
    IfOk-weaker c.products.result _ _
    (halves_denote of_pairs IsGood pairs_lawful in_shape _ c.args.lists.now _ _ _ _ _ _ c.split_at.ensures.front c.split_at.ensures.back
    c.as_slice-in_default.ensures c.as_slice-in_default-2.ensures c.in_ok-first-in_default.ensures.denote c.in_ok-second-in_default.ensures.denote)
    c.products.ensures.denote

pub returns-in_ok-second-in_default-clause-count : goal.returns-in_ok-second-in_default-clause-count
returns-in_ok-second-in_default-clause-count t c =
    IfOk-weaker c.products.result _ _
    (λ whole. product_count _ c.args.lists.now _ _ _ _ _ _ whole c.split_at.ensures.front c.split_at.ensures.back
    c.as_slice-in_default.ensures c.as_slice-in_default-2.ensures c.in_ok-first-in_default.ensures.count c.in_ok-second-in_default.ensures.count)
    c.products.ensures.count

pub product_of_halves-requires : goal.product_of_halves-requires
product_of_halves-requires t c =
    let fits = front_fits c.args.lists.now _ c.args.further c.in_default.len_at_least c.requires c.split_at.ensures.front in
    let left = fits.0 in (omega arith, fits.1)

pub product_of_halves-requires-in_default : goal.product_of_halves-requires-in_default
product_of_halves-requires-in_default t c =
    let fits = back_fits c.args.lists.now _ c.args.further c.in_default.len_at_least c.requires c.split_at.ensures.back in
    let left = fits.0 in (omega arith, fits.1)
