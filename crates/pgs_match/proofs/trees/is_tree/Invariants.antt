use Rattle.std.proofs.Common.{◌≡◌, true, take}
use Rattle.std.specs.List.{list_all}
use Rattle.pgs_match.specs.Branches.{has_steps}
use Rattle.pgs_match.proofs.trees.is_tree.Given as goal

abbrev pub invariant-loop-atom : goal.invariant-loop-atom
invariant-loop-atom l = list_all (has_steps l.plan) (take l.atom-index l.atoms) ≡ true
