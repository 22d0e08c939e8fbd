use Rattle.std.proofs.Common.{◌||◌, length, ◌∷◌, [], ◌∙◌, ap, arith, length-append}
use Rattle.std.specs.List.{list_any}
use Rattle.std.proofs.lemmas.List.{take_all}
use Rattle.pgs_syntax.specs.Join.{of_triples, joined}
use Rattle.pgs_conform.specs.Shapes.{in_triple, in_some_triple}
use Rattle.pgs_product.proofs.Walks.{item_more}
use Rattle.pgs_product.proofs.triple_lists.push_triple_products.Goals as goal

pub loop-triple-preserved : goal.loop-triple-preserved
loop-triple-preserved c = record {
  denote = λ t pairs.
      item_more (λ triple. in_triple triple t) (λ triple. joined of_triples (in_triple c.args.first.now) (in_triple triple) t)
      (in_some_triple c.args.products.now.items t) c.args.second.now c.loop-triple.triple-index c.triple-item.result
      c.loop-triple.products.items _ c.in_ok-triple_product.field-0 c.loop-triple-test.true c.triple-item.is (c.loop-triple.invariant.denote t pairs)
      (c.in_ok-triple_product.ensures t pairs) c.in_ok-push.ensures.items;
  count =
      let longer = ap length c.in_ok-push.ensures.items ∙ length-append c.loop-triple.products.items (c.in_ok-triple_product.field-0 ∷ []) in
      omega (arith, longer, c.loop-triple.invariant.count);
}

pub returns-clause-denote : goal.returns-clause-denote
returns-clause-denote c = λ t pairs.
    c.loop-triple.invariant.denote t pairs
    ∙ ap (λ shapes. in_some_triple c.args.products.now.items t || list_any (λ triple. joined of_triples (in_triple c.args.first.now) (in_triple triple) t) shapes)
    (take_all c.loop-triple.triple-index c.args.second.now (omega arith))
