use Rattle.std.proofs.Common.{◌≡◌, length}
use Rattle.std.specs.Cmp.Lexicographic.{pointwise}
use Rattle.pgs_conform.specs.Kinds.{have_one_kind}
use Rattle.pgs_conform.proofs.alike.have_same_kinds.Given as goal

abbrev pub invariant-loop-left : goal.invariant-loop-left
invariant-loop-left l = record { same : pointwise have_one_kind l.props l.others ≡ pointwise have_one_kind l.left l.others_left }

abbrev pub decreases-loop-left : goal.decreases-loop-left
decreases-loop-left l = length l.left
