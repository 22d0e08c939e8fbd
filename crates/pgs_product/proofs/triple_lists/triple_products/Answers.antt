use Rattle.std.proofs.Common.{◌∙◌, ap, arith}
use Rattle.std.specs.List.{list_any}
use Rattle.std.proofs.lemmas.List.{take_all}
use Rattle.pgs_syntax.specs.Join.{of_triples, joined}
use Rattle.pgs_conform.specs.Shapes.{in_triple, in_some_triple}
use Rattle.pgs_product.proofs.Several.{any_joined}
use Rattle.pgs_product.proofs.Walks.{row_more}
use Rattle.pgs_product.proofs.triple_lists.triple_products.Goals as goal

pub loop-triple-preserved : goal.loop-triple-preserved
loop-triple-preserved c = record {
  denote = λ t pairs.
      row_more (λ triple. in_triple triple t) (λ one. list_any (λ other. joined of_triples (in_triple one) (in_triple other) t) c.args.second.now)
      c.args.first.now c.loop-triple.triple-index c.triple-item.result c.loop-triple.products.items _ c.loop-triple-test.true c.triple-item.is
      (c.loop-triple.invariant.denote t pairs) (c.in_ok-push_triple_products.ensures.denote t pairs);
  count = omega (arith, c.in_ok-push_triple_products.ensures.count, c.loop-triple.invariant.count);
}

pub returns-clause-denote : goal.returns-clause-denote
returns-clause-denote c = λ t pairs.
    let first = c.args.first.now in
    let second = c.args.second.now in
    ap (λ shapes. in_some_triple shapes t) c.from_vec.ensures ∙ c.loop-triple.invariant.denote t pairs
    ∙ ap (list_any (λ one. list_any (λ other. joined of_triples (in_triple one) (in_triple other) t) second)) (take_all c.loop-triple.triple-index first (omega arith))
    ∙ any_joined of_triples in_triple first second t
