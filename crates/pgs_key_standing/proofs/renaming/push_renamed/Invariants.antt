use Rattle.std.proofs.Common.{◌≡◌, ◌++◌, map, length, slice_index}
use Rattle.pgs_key_standing.specs.Renamed.{renamed}
use Rattle.pgs_key_standing.proofs.renaming.push_renamed.Given as goal

abbrev pub invariant-loop-left : goal.invariant-loop-left
invariant-loop-left l =
    l.all.items ++ map (renamed (λ var. slice_index l.numbers var)) l.left ≡ l.fn.all.items ++ map (renamed (λ var. slice_index l.numbers var)) l.atoms

abbrev pub decreases-loop-left : goal.decreases-loop-left
decreases-loop-left l = length l.left
