use Rattle.std.proofs.Common.{◌≡◌, take}
use Rattle.pgs_match.proofs.copies.copy_atoms.Given as goal

abbrev pub invariant-loop-atom : goal.invariant-loop-atom
invariant-loop-atom l = l.copies.items ≡ take l.atom-index l.atoms
