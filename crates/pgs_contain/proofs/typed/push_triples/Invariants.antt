use Rattle.std.proofs.Common.{◌+◌, length, ◌≡◌, ◌||◌, take}
use Rattle.pgs_syntax.specs.Join.{PairTriple}
use Rattle.pgs_conform.specs.Shapes.{in_some_triple}
use Rattle.pgs_contain.proofs.typed.push_triples.Given as goal

abbrev pub invariant-loop-triple : goal.invariant-loop-triple
invariant-loop-triple l = record {
  denote : (t : PairTriple) → in_some_triple l.all.items t ≡ (in_some_triple l.fn.all.items t || in_some_triple (take l.triple-index l.triples) t);
  count : length l.all.items ≡ length l.fn.all.items + l.triple-index;
}
