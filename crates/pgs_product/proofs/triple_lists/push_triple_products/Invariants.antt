use Rattle.std.proofs.Common.{◌≡◌, ◌+◌, ◌||◌, true, length, take}
use Rattle.std.specs.List.{list_any}
use Rattle.pgs_syntax.specs.Join.{of_triples, joined, PairTriple}
use Rattle.pgs_syntax.specs.Triples.{is_triple}
use Rattle.pgs_conform.specs.Shapes.{in_triple, in_some_triple}
use Rattle.pgs_product.proofs.triple_lists.push_triple_products.Given as goal

abbrev pub invariant-loop-triple : goal.invariant-loop-triple
invariant-loop-triple l = record {
  denote : (t : PairTriple) → is_triple t ≡ true → in_some_triple l.products.items t
      ≡ (in_some_triple l.fn.products.items t || list_any (λ shapes. joined of_triples (in_triple l.first) (in_triple shapes) t) (take l.triple-index l.second));
  count : length l.products.items ≡ length l.fn.products.items + l.triple-index;
}
