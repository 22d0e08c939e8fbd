use Rattle.std.proofs.Common.{◌+◌, length, ◌∷◌, [], false, ◌∙◌, ap, length-append}
use Rattle.pgs_conform.specs.Shapes.{in_triple}
use Rattle.pgs_product.proofs.Walks.{item_more}
use Rattle.pgs_product.proofs.triples.copy_triples.Goals as goal

pub loop-triple-preserved : goal.loop-triple-preserved
loop-triple-preserved c = record {
  same = λ t.
      item_more (λ triple. in_triple triple t) (λ triple. in_triple triple t) false c.args.triples.now c.loop-triple.triple-index c.triple-item.result
      c.loop-triple.copies.items _ c.in_ok-copy_triple.field-0 c.loop-triple-test.true c.triple-item.is (c.loop-triple.invariant.same t)
      (c.in_ok-copy_triple.ensures t) c.in_ok-push.ensures.items;
  count =
      ap length c.in_ok-push.ensures.items ∙ length-append c.loop-triple.copies.items (c.in_ok-copy_triple.field-0 ∷ [])
      ∙ ap (λ n. n + 1) c.loop-triple.invariant.count;
}
