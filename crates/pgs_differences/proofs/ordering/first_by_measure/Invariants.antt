use Rattle.std.proofs.Common.{◌≡◌, take}
use Rattle.pgs_differences.specs.Nearest.{by_measure}
use Rattle.pgs_differences.proofs.ordering.first_by_measure.Given as goal

abbrev pub invariant-loop-near : goal.invariant-loop-near
invariant-loop-near l = l.first.items ≡ take l.most (by_measure l.yielded)
