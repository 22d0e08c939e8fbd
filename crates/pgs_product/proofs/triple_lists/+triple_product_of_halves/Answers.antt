use Rattle.std.proofs.Common.{◌&&◌, [], ◌∷◌, ◌++◌, map, sym, ◌∙◌, ap, arith}
use Rattle.std.proofs.Math.Bool.{or-false}
use Rattle.std.proofs.lemmas.Result.{IfOk-weaker}
use Rattle.pgs_syntax.specs.Join.{of_triples, joined_all, is_empty_pair}
use Rattle.pgs_conform.specs.Shapes.{in_triple, in_some_triple}
use Rattle.pgs_product.proofs.Halved.{front_fits, back_fits, product_count}
use Rattle.pgs_product.proofs.Joins.{IsGoodTriple, triples_lawful}
use Rattle.pgs_product.proofs.Several.{one_denotes, halves_denote}
use Rattle.pgs_product.proofs.Walks.{no_items, one_item}
use Rattle.pgs_product.proofs.triple_lists.+triple_product_of_halves.Goals as goal

pub returns-in_ok-push-in-empty-clause-denote : goal.returns-in_ok-push-in-empty-clause-denote
returns-in_ok-push-in-empty-clause-denote t c = λ u pairs.
    let middle = ap (λ own. is_empty_pair u.source && own && is_empty_pair u.target) (c.empty_shape.ensures u.own) in
    let items = c.from_vec.ensures ∙ c.in_ok-push-in-empty.ensures.items ∙ ap (λ triples. triples ++ c.middle_triple.result ∷ []) c.new-only.ensures.items in
    ap (λ triples. in_some_triple triples u) items ∙ or-false (in_triple c.middle_triple.result u) ∙ c.middle_triple.ensures u ∙ middle
    ∙ ap (λ lists. joined_all of_triples (map in_some_triple lists) u) (sym (no_items c.args.lists.now c.in-empty.len_below))

pub returns-in-len1-clause-denote : goal.returns-in-len1-clause-denote
returns-in-len1-clause-denote t c =
    let lists = c.args.lists.now in
    let only = c.only-item.result in
    let one = one_item lists only c.in-len1.len_at_least c.in-len1.len_below c.only-item.is in
    IfOk-weaker c.copy_triples.result _ _ (λ copies same p good. one_denotes of_triples IsGoodTriple triples_lawful in_triple lists only _ copies one c.as_slice.ensures same p)
    c.copy_triples.ensures.same

pub returns-in_ok-second-in_default-clause-denote : goal.returns-in_ok-second-in_default-clause-denote
returns-in_ok-second-in_default-clause-denote t c =
    IfOk-weaker c.triple_products.result _ _
    (halves_denote of_triples IsGoodTriple triples_lawful in_triple _ c.args.lists.now _ _ _ _ _ _ c.split_at.ensures.front c.split_at.ensures.back
    c.as_slice-in_default.ensures c.as_slice-in_default-2.ensures c.in_ok-first-in_default.ensures.denote c.in_ok-second-in_default.ensures.denote)
    c.triple_products.ensures.denote

pub returns-in_ok-second-in_default-clause-count : goal.returns-in_ok-second-in_default-clause-count
returns-in_ok-second-in_default-clause-count t c =
    IfOk-weaker c.triple_products.result _ _
    (λ whole. product_count _ c.args.lists.now _ _ _ _ _ _ whole c.split_at.ensures.front c.split_at.ensures.back
    c.as_slice-in_default.ensures c.as_slice-in_default-2.ensures c.in_ok-first-in_default.ensures.count c.in_ok-second-in_default.ensures.count)
    c.triple_products.ensures.count

pub triple_product_of_halves-requires : goal.triple_product_of_halves-requires
triple_product_of_halves-requires t c =
    let fits = front_fits c.args.lists.now _ c.args.further c.in_default.len_at_least c.requires c.split_at.ensures.front in
    let left = fits.0 in (omega arith, fits.1)

pub triple_product_of_halves-requires-in_default : goal.triple_product_of_halves-requires-in_default
triple_product_of_halves-requires-in_default t c =
    let fits = back_fits c.args.lists.now _ c.args.further c.in_default.len_at_least c.requires c.split_at.ensures.back in
    let left = fits.0 in (omega arith, fits.1)
