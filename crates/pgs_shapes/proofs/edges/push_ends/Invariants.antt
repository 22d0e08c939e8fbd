use Rattle.std.proofs.Common.{◌≡◌, ◌+◌, ◌&&◌, ◌||◌, length, take}
use Rattle.std.specs.List.{list_any}
use Rattle.pgs_syntax.specs.Join.{is_empty_pair, PairTriple}
use Rattle.pgs_conform.specs.Shapes.{in_shape, in_some_triple}
use Rattle.pgs_shapes.proofs.edges.push_ends.Given as goal

abbrev pub invariant-loop-target : goal.invariant-loop-target
invariant-loop-target l = record {
  denote : (t : PairTriple) → in_some_triple l.ends.items t
      ≡ (in_some_triple l.fn.ends.items t || list_any (λ target. in_shape l.source t.source && is_empty_pair t.own && in_shape target t.target) (take l.target-index l.targets));
  count : length l.ends.items ≡ length l.fn.ends.items + l.target-index;
}
