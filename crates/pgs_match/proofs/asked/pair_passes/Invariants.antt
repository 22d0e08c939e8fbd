use Rattle.std.proofs.Common.{◌≡◌, true, take}
use Rattle.std.specs.List.{list_all}
use Rattle.pgs_base.specs.Pair.{pair_of}
use Rattle.pgs_match.specs.Tests.{pair_meets}
use Rattle.pgs_match.proofs.asked.pair_passes.Given as goal

abbrev pub invariant-loop-atom : goal.invariant-loop-atom
invariant-loop-atom l = list_all (pair_meets l.var (pair_of l.labels l.props)) (take l.atom-index l.atoms) ≡ true
