use Rattle.std.proofs.Common.{◌≡◌, [], take}
use Rattle.std.specs.List.{fold}
use Rattle.pgs_advice.specs.Subtypes.{with_type}
use Rattle.pgs_advice.proofs.subtypes.bases_of.Given as goal

abbrev pub invariant-loop-number : goal.invariant-loop-number
invariant-loop-number l = l.bases.items ≡ fold with_type [] (take l.number-index l.number-items)
