use Rattle.std.proofs.Common.{◌≡◌, length, take}
use Rattle.pgs_syntax.specs.Join.{PairTriple}
use Rattle.pgs_conform.specs.Shapes.{in_some_triple}
use Rattle.pgs_product.proofs.triples.copy_triples.Given as goal

abbrev pub invariant-loop-triple : goal.invariant-loop-triple
invariant-loop-triple l = record {
  same : (t : PairTriple) → in_some_triple l.copies.items t ≡ in_some_triple (take l.triple-index l.triples) t;
  count : length l.copies.items ≡ l.triple-index;
}
