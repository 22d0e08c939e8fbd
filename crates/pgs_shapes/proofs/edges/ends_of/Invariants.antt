use Rattle.std.proofs.Common.{◌≡◌, ◌*◌, ◌&&◌, length, take}
use Rattle.std.specs.List.{list_any}
use Rattle.pgs_syntax.specs.Join.{is_empty_pair, PairTriple}
use Rattle.pgs_conform.specs.Shapes.{in_shape, in_some, in_some_triple}
use Rattle.pgs_shapes.proofs.edges.ends_of.Given as goal

abbrev pub invariant-loop-source : goal.invariant-loop-source
invariant-loop-source l = record {
  denote : (t : PairTriple) → in_some_triple l.ends.items t
      ≡ list_any (λ source. in_shape source t.source && is_empty_pair t.own && in_some l.targets t.target) (take l.source-index l.sources);
  count : length l.ends.items ≡ l.source-index * length l.targets;
}
