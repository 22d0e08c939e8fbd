use Rattle.std.proofs.Common.{◌&&◌, take}
use Rattle.pgs_conform.specs.Shapes.{in_some}
use Rattle.pgs_standing.specs.Example.{IsFoundPair}
use Rattle.pgs_standing.specs.Standing.{is_small}
use Rattle.pgs_standing.proofs.pairs.plain_in_lists.Given as goal

abbrev pub invariant-loop-shape : goal.invariant-loop-shape
invariant-loop-shape l = IsFoundPair (λ p. is_small p && (in_some (take l.shape-index l.shapes) p && in_some l.others p)) l.found
