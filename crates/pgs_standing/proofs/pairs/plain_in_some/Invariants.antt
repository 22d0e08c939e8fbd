use Rattle.std.proofs.Common.{◌&&◌, take}
use Rattle.pgs_conform.specs.Shapes.{in_shape, in_some}
use Rattle.pgs_standing.specs.Example.{IsFoundPair}
use Rattle.pgs_standing.specs.Standing.{is_small}
use Rattle.pgs_standing.proofs.pairs.plain_in_some.Given as goal

abbrev pub invariant-loop-other : goal.invariant-loop-other
invariant-loop-other l = IsFoundPair (λ p. is_small p && (in_shape l.shape p && in_some (take l.other-index l.others) p)) l.found
