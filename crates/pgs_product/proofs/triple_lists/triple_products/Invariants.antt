use Rattle.std.proofs.Common.{◌≡◌, ◌*◌, true, length, take}
use Rattle.std.specs.List.{list_any}
use Rattle.pgs_syntax.specs.Join.{of_triples, joined, PairTriple}
use Rattle.pgs_syntax.specs.Triples.{is_triple}
use Rattle.pgs_conform.specs.Shapes.{in_triple, in_some_triple}
use Rattle.pgs_product.proofs.triple_lists.triple_products.Given as goal

abbrev pub invariant-loop-triple : goal.invariant-loop-triple
invariant-loop-triple l = record {
  denote : (t : PairTriple) → is_triple t ≡ true → in_some_triple l.products.items t
      ≡ list_any (λ one. list_any (λ other. joined of_triples (in_triple one) (in_triple other) t) l.second) (take l.triple-index l.first);
  count : length l.products.items ≡ l.triple-index * length l.second;
}
