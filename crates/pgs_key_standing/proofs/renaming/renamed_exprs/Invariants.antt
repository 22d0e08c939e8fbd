use Rattle.std.proofs.Common.{◌≡◌, ◌++◌, map, length, slice_index}
use Rattle.pgs_key_standing.specs.Renamed.{renamed_expr}
use Rattle.pgs_key_standing.proofs.renaming.renamed_exprs.Given as goal

abbrev pub invariant-loop-left : goal.invariant-loop-left
invariant-loop-left l =
    l.others.items ++ map (renamed_expr (λ var. slice_index l.numbers var)) l.left ≡ map (renamed_expr (λ var. slice_index l.numbers var)) l.exprs

abbrev pub decreases-loop-left : goal.decreases-loop-left
decreases-loop-left l = length l.left
